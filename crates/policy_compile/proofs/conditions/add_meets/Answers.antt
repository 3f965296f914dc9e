use Rattle.std.proofs.Common.{◌∷◌, [], ap}
use Rattle.std.specs.List.{flat_map}
use Rattle.policy_model.specs.declared.operator.Operand.{Operand}
use Rattle.policy_compile.specs.Conditions.{meets_plan, meets_plans}
use Rattle.policy_compile.proofs.Steps.{Added-nothing, Added-one, at-plans, fails-at, first-fails, item-added, item-fails, items-added, plans-fault}
use Rattle.policy_compile.proofs.conditions.add_meets.Goals as goal

pub loop-operand-init : goal.loop-operand-init
loop-operand-init c = Added-nothing c.args.builder.now c.args.indices.now

pub returns-in_err-index : goal.returns-in_err-index
returns-in_err-index c =
    let asks = λ (o : Operand). meets_plan c.args.kind c.args.condition.now o ∷ [] in
    plans-fault c.args.builder.now c.meets.new.builder (meets_plans c.args.kind c.args.condition.now) c.args.indices.now c.loop-operand.indices c.from_residual.result c.in_err-index.field-0.0 c.from_residual.ensures.1
    (fails-at c.args.builder.now.tests.keys (flat_map asks c.as_slice-operand-items.result.now) (meets_plans c.args.kind c.args.condition.now) c.in_err-index.field-0.0 (ap (flat_map asks) c.as_slice-operand-items.ensures)
    (item-fails asks c.as_slice-operand-items.result.now c.loop-operand.operand-index c.operand-item.result c.loop-operand-test.true c.operand-item.is c.args.builder.now c.loop-operand.builder c.args.indices.now c.loop-operand.indices c.in_err-index.field-0.0 c.loop-operand.invariant
    (first-fails c.loop-operand.builder.tests.keys (meets_plan c.args.kind c.args.condition.now c.operand-item.result) [] c.in_err-index.field-0.0 c.in_err-index.ensures)))

pub loop-operand-preserved : goal.loop-operand-preserved
loop-operand-preserved c =
    let asks = λ (o : Operand). meets_plan c.args.kind c.args.condition.now o ∷ [] in
    item-added asks c.as_slice-operand-items.result.now c.loop-operand.operand-index c.operand-item.result c.loop-operand-test.true c.operand-item.is c.args.builder.now c.loop-operand.builder c.meets.new.builder c.args.indices.now c.loop-operand.indices c.push.new.self c.loop-operand.invariant
    (Added-one c.loop-operand.builder c.meets.new.builder (meets_plan c.args.kind c.args.condition.now c.operand-item.result) c.in_ok-index.index c.loop-operand.indices c.push.new.self c.in_ok-index.ensures c.in_ok-push.ensures.ok)

pub returns : goal.returns
returns c =
    let asks = λ (o : Operand). meets_plan c.args.kind c.args.condition.now o ∷ [] in
    at-plans c.args.builder.now c.loop-operand.builder (flat_map asks c.as_slice-operand-items.result.now) (meets_plans c.args.kind c.args.condition.now) c.args.indices.now c.loop-operand.indices (ap (flat_map asks) c.as_slice-operand-items.ensures)
    (items-added asks c.as_slice-operand-items.result.now c.loop-operand.operand-index c.loop-operand-test.false c.args.builder.now c.loop-operand.builder c.args.indices.now c.loop-operand.indices c.loop-operand.invariant)
