use Rattle.std.proofs.Common.{◌∷◌, [], ap, sym}
use Rattle.policy_compile.specs.Conditions.{null_plans, presence_plan}
use Rattle.policy_compile.proofs.Steps.{Added-nothing, Added-one, at-plans, nothing-asked}
use Rattle.policy_compile.proofs.conditions.add_null.Goals as goal

pub returns-in_default : goal.returns-in_default
returns-in_default c =
    let none = nothing-asked c.args.condition.now c.args.operand.now c.in_default.not-Truth in
    at-plans c.args.builder.now c.args.builder.now [] (null_plans c.args.condition.now c.args.operand.now) c.args.indices.now c.args.indices.now (sym none) (Added-nothing c.args.builder.now c.args.indices.now)

pub returns : goal.returns
returns c =
    let condition = c.args.condition.now in
    at-plans c.args.builder.now c.presence.new.builder (presence_plan condition c.in-Truth.is_absent ∷ []) (null_plans condition c.args.operand.now) c.args.indices.now c.push.new.self (sym (ap (null_plans condition) c.in-Truth.is))
    (Added-one c.args.builder.now c.presence.new.builder (presence_plan condition c.in-Truth.is_absent) c.in_ok-index.index c.args.indices.now c.push.new.self c.in_ok-index.ensures c.in_ok-push.ensures.ok)
