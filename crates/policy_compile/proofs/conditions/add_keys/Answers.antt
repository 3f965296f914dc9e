use Rattle.std.proofs.Common.{◌∷◌, []}
use Rattle.policy_model.specs.declared.operator.Condition.{Condition}
use Rattle.policy_compile.specs.Conditions.{condition_plan, group_plans}
use Rattle.policy_compile.proofs.Steps.{Added-nothing, Added-one, first-fails, item-added, item-fails, items-added, plans-fault}
use Rattle.policy_compile.proofs.conditions.add_keys.Goals as goal

pub loop-item-init : goal.loop-item-init
loop-item-init c = Added-nothing c.args.builder.now c.args.indices.now

pub returns-in_err-index : goal.returns-in_err-index
returns-in_err-index c =
    plans-fault c.args.builder.now c.condition.new.builder (group_plans c.args.schema.now c.args.group.now) c.args.indices.now c.loop-item.indices c.from_residual.result c.in_err-index.field-0.0 c.from_residual.ensures.1
    (item-fails (λ (k : Condition). condition_plan c.args.schema.now k ∷ []) c.args.group.now c.loop-item.item-index c.item-item.result c.loop-item-test.true c.item-item.is c.args.builder.now c.loop-item.builder c.args.indices.now c.loop-item.indices c.in_err-index.field-0.0 c.loop-item.invariant
    (first-fails c.loop-item.builder.tests.keys (condition_plan c.args.schema.now c.item-item.result) [] c.in_err-index.field-0.0 c.in_err-index.ensures))

pub loop-item-preserved : goal.loop-item-preserved
loop-item-preserved c =
    item-added (λ (k : Condition). condition_plan c.args.schema.now k ∷ []) c.args.group.now c.loop-item.item-index c.item-item.result c.loop-item-test.true c.item-item.is c.args.builder.now c.loop-item.builder c.condition.new.builder c.args.indices.now c.loop-item.indices c.push.new.self c.loop-item.invariant
    (Added-one c.loop-item.builder c.condition.new.builder (condition_plan c.args.schema.now c.item-item.result) c.in_ok-index.index c.loop-item.indices c.push.new.self c.in_ok-index.ensures c.in_ok-push.ensures.ok)

pub returns : goal.returns
returns c = items-added (λ (k : Condition). condition_plan c.args.schema.now k ∷ []) c.args.group.now c.loop-item.item-index c.loop-item-test.false c.args.builder.now c.loop-item.builder c.args.indices.now c.loop-item.indices c.loop-item.invariant
