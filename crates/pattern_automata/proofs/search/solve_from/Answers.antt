use Rattle.std.proofs.Common.{◌∙◌, sym, ap, List, ℕ, length, []}
use Rattle.pattern_automata.specs.Tree.{words_meet}
use Rattle.pattern_automata.proofs.Packing.{length-all_words}
use Rattle.pattern_automata.proofs.Answering.{begins, empty-text}
use Rattle.pattern_automata.proofs.search.solve_from.Goals as goal

pub is_met-requires-clause-size : goal.is_met-requires-clause-size
is_met-requires-clause-size c = ap length (c.as_slice.ensures.value ∙ c.requires.begun.words) ∙ length-all_words c.args.wants.now.patterns []

pub returns-then-is_met : goal.returns-then-is_met
returns-then-is_met c =
    empty-text _ _ _ _ _ c.requires.machine.ends c.requires.range (c.as_slice.ensures.value ∙ c.requires.begun.words) (sym c.if-is_met.ensures) (c.from_chars.ensures ∙ c.new.ensures.items)

pub solve_on-requires-clause-left : goal.solve_on-requires-clause-left
solve_on-requires-clause-left c =
    begins _ _ _ _ _ c.requires.machine.ends c.requires.range _ _ c.requires.begun.found c.requires.begun.parents c.requires.positive
    (ap (λ (x : List ℕ). words_meet c.args.machine.now.ends.items c.args.wants.now.clauses x) (sym (c.as_slice.ensures.value ∙ c.requires.begun.words)) ∙ sym c.if-is_met.ensures)
