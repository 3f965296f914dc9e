use Rattle.std.proofs.Common.{◌≡◌, map, take}
use Rattle.policy_model.specs.Operators.{cond_of}
use Rattle.policy_model.proofs.operand.conds_of.Given as goal

-- what was asked so far is what the values so far ask
abbrev pub invariant-loop-operand : goal.invariant-loop-operand
invariant-loop-operand l = l.conds ≡ map (cond_of l.fn.kind l.fn.condition.operator.base) (take l.operand-index l.fn.condition.values)
