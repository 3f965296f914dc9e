use Rattle.std.proofs.Common.{◌≡◌, false, take, All}
use Rattle.value_theory.specs.Solutions.{meets_clauses}
use Rattle.value_theory.proofs.search.first_meeting.Given as goal

abbrev pub invariant-loop-index : goal.invariant-loop-index
invariant-loop-index l = All (λ p. meets_clauses l.conds l.clauses p ≡ false) (take l.index l.points)
