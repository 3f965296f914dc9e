use Rattle.clause_proofs.proofs.Falsifying.{IsFalsified}
use Rattle.clause_proofs.proofs.checking.falsify.Given as goal

abbrev pub invariant-literals : goal.invariant-literals
invariant-literals l = IsFalsified l.literals l.literal-index l.path
