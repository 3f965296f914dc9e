use Rattle.std.proofs.Common.{All, take, true}
use Rattle.policy_model.specs.Sets.{SomeDecides}
use Rattle.policy_eval.proofs.eval.guards_allow.Given as goal

-- each guard so far has an Allow statement that applies
abbrev pub invariant-loop-guard : goal.invariant-loop-guard
invariant-loop-guard l = All (SomeDecides l.schema true l.request) (take l.guard-index l.guards)
