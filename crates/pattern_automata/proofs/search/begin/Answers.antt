use Rattle.std.proofs.Common.{◌∙◌, ◌∷◌, [], ap, List, ℕ}
use Rattle.pattern_automata.proofs.search.begin.Goals as goal

pub returns : goal.returns
returns c = record {
  found = c.in_ok-first_found.ensures ∙ ap (λ (x : List ℕ). x ∷ []) (c.as_slice.ensures.value ∙ c.in_ok-words.ensures);
  parents = c.in_ok-first_parents.ensures;
  words = c.in_ok-words.ensures;
}
