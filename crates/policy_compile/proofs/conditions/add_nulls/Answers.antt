use Rattle.std.proofs.Common.{ap}
use Rattle.std.specs.List.{flat_map}
use Rattle.policy_compile.specs.Conditions.{null_plans, nulls_plans}
use Rattle.policy_compile.proofs.Steps.{Added-nothing, at-plans, fails-at, item-added, item-fails, items-added, plans-fault}
use Rattle.policy_compile.proofs.conditions.add_nulls.Goals as goal

pub loop-truth-init : goal.loop-truth-init
loop-truth-init c = Added-nothing c.args.builder.now c.args.indices.now

pub returns-in_err-add_null : goal.returns-in_err-add_null
returns-in_err-add_null c =
    let asks = null_plans c.args.condition.now in
    plans-fault c.args.builder.now c.add_null.new.builder (nulls_plans c.args.condition.now) c.args.indices.now c.add_null.new.indices c.from_residual.result c.in_err-add_null.field-0.0 c.from_residual.ensures.1
    (fails-at c.args.builder.now.tests.keys (flat_map asks c.as_slice-truth-items.result.now) (nulls_plans c.args.condition.now) c.in_err-add_null.field-0.0 (ap (flat_map asks) c.as_slice-truth-items.ensures)
    (item-fails asks c.as_slice-truth-items.result.now c.loop-truth.truth-index c.truth-item.result c.loop-truth-test.true c.truth-item.is c.args.builder.now c.loop-truth.builder c.args.indices.now c.loop-truth.indices c.in_err-add_null.field-0.0 c.loop-truth.invariant c.in_err-add_null.ensures))

pub loop-truth-preserved : goal.loop-truth-preserved
loop-truth-preserved c =
    item-added (null_plans c.args.condition.now) c.as_slice-truth-items.result.now c.loop-truth.truth-index c.truth-item.result c.loop-truth-test.true c.truth-item.is c.args.builder.now c.loop-truth.builder c.add_null.new.builder c.args.indices.now c.loop-truth.indices c.add_null.new.indices
    c.loop-truth.invariant c.in_ok-add_null.ensures

pub returns : goal.returns
returns c =
    let asks = null_plans c.args.condition.now in
    at-plans c.args.builder.now c.loop-truth.builder (flat_map asks c.as_slice-truth-items.result.now) (nulls_plans c.args.condition.now) c.args.indices.now c.loop-truth.indices (ap (flat_map asks) c.as_slice-truth-items.ensures)
    (items-added asks c.as_slice-truth-items.result.now c.loop-truth.truth-index c.loop-truth-test.false c.args.builder.now c.loop-truth.builder c.args.indices.now c.loop-truth.indices c.loop-truth.invariant)
