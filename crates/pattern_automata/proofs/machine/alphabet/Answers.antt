use Rattle.std.proofs.Common.{◌∙◌, ◌++◌, ap, subst, sym, Bool, List, ℕ}
use Rattle.pattern_automata.specs.Machine.{IsAlphabet}
use Rattle.pattern_automata.proofs.Standing.{alphabet-of}
use Rattle.pattern_automata.proofs.machine.alphabet.Goals as goal

pub returns : goal.returns
returns c =
    subst (λ (b : Bool). IsAlphabet c.args.patterns.now c.extend_from_slice.new.self.items b) (sym c.is_some.ensures)
    (alphabet-of c.args.patterns.now c.in_ok-named.named.keys c.in_ok-named.ensures c.in_ok-characters.characters.items c.extend_from_slice.new.self.items c.spare-spare.result c.spare-spare.ensures c.in_ok-characters.ensures
    (c.in_ok-extend_from_slice.ensures.items ∙ ap (λ (x : List ℕ). c.in_ok-characters.characters.items ++ x) c.as_slice.ensures.keys))
