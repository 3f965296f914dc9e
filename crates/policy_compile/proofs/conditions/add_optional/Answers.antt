use Rattle.std.proofs.Common.{◌∷◌, []}
use Rattle.policy_compile.specs.Conditions.{absent_plan, operator_plan, optional_plans}
use Rattle.policy_compile.proofs.Steps.{Added-one, Added-push, first-fails, next-fails, plans-fault}
use Rattle.policy_compile.proofs.conditions.add_optional.Goals as goal

pub returns-in_err-absent : goal.returns-in_err-absent
returns-in_err-absent c =
    let none = absent_plan c.args.condition.now in
    let other = operator_plan c.args.kind c.args.condition.now in
    plans-fault c.args.builder.now c.absent.new.builder (optional_plans c.args.kind c.args.condition.now) c.args.indices.now c.args.indices.now c.from_residual.result c.in_err-absent.field-0.0 c.from_residual.ensures.1
    (first-fails c.args.builder.now.tests.keys none (other ∷ []) c.in_err-absent.field-0.0 c.in_err-absent.ensures)

pub returns-in_err-holds : goal.returns-in_err-holds
returns-in_err-holds c =
    let none = absent_plan c.args.condition.now in
    let other = operator_plan c.args.kind c.args.condition.now in
    let one = Added-one c.args.builder.now c.absent.new.builder none c.in_ok-absent.absent c.args.indices.now c.push.new.self c.in_ok-absent.ensures c.in_ok-push.ensures.ok in
    plans-fault c.args.builder.now c.operator.new.builder (optional_plans c.args.kind c.args.condition.now) c.args.indices.now c.push.new.self c.from_residual-in_err-holds.result c.in_err-holds.field-0.0 c.from_residual-in_err-holds.ensures.1
    (next-fails c.args.builder.now c.absent.new.builder (none ∷ []) (other ∷ []) c.args.indices.now c.push.new.self c.in_err-holds.field-0.0 one
    (first-fails c.absent.new.builder.tests.keys other [] c.in_err-holds.field-0.0 c.in_err-holds.ensures))

pub returns : goal.returns
returns c =
    let none = absent_plan c.args.condition.now in
    let other = operator_plan c.args.kind c.args.condition.now in
    let one = Added-one c.args.builder.now c.absent.new.builder none c.in_ok-absent.absent c.args.indices.now c.push.new.self c.in_ok-absent.ensures c.in_ok-push.ensures.ok in
    Added-push c.args.builder.now c.absent.new.builder c.operator.new.builder (none ∷ []) other c.in_ok-holds.holds c.args.indices.now c.push.new.self c.push-2.new.self one c.in_ok-holds.ensures c.in_ok-push-2.ensures.ok
