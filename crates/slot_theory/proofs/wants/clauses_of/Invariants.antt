use Rattle.std.proofs.Common.{◌≡◌, ◌++◌, drop}
use Rattle.slot_theory.specs.Wants.{wanted_clauses}
use Rattle.slot_theory.proofs.wants.clauses_of.Given as goal

abbrev pub invariant-loop-i : goal.invariant-loop-i
invariant-loop-i l = wanted_clauses l.question.path.now l.numbers l.shape 0 ≡ l.clauses ++ wanted_clauses l.question.path.now (drop l.i l.numbers) l.shape l.i
