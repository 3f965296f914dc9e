use Rattle.std.proofs.Common.{All, take, true}
use Rattle.policy_model.specs.Sets.{SomeDecides}
use Rattle.policy_eval.proofs.first.first_silent.Given as goal

-- each guard so far has an Allow statement that applies
abbrev pub invariant-loop-i : goal.invariant-loop-i
invariant-loop-i l = All (SomeDecides l.schema true l.request) (take l.i l.guards)
