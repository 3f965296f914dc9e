use Rattle.std.proofs.Common.{◌≡◌, get_or, drop}
use Rattle.pattern_automata.specs.Closed.{clause_holds}
use Rattle.pattern_automata.specs.Packed.{word_mark}
use Rattle.pattern_automata.proofs.meets.words_meet_clause.Given as goal

abbrev pub invariant-loop-literal : goal.invariant-loop-literal
invariant-loop-literal l =
    clause_holds (λ i. word_mark l.words (get_or l.ends i 0)) (drop l.literal-index l.literals) ≡ clause_holds (λ i. word_mark l.words (get_or l.ends i 0)) l.literals
