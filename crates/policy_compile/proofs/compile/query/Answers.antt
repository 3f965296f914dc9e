use Rattle.policy_compile.specs.Sets.{query_plan}
use Rattle.policy_compile.proofs.Finishing.{makes-built, no-node}
use Rattle.policy_compile.proofs.Steps.{Built-within}
use Rattle.policy_compile.proofs.compile.query.Goals as goal

pub returns-in_err-index : goal.returns-in_err-index
returns-in_err-index c =
    no-node c.new-builder.result.tests.keys (query_plan c.args.schema.now c.args.first.now c.args.second.now) c.from_residual.result c.in_err-index.field-0.0 c.new-builder.ensures.tests c.from_residual.ensures.1 c.in_err-index.ensures

pub finished-requires : goal.finished-requires
finished-requires c = Built-within c.new-builder.result c.pair_node.new.builder (query_plan c.args.schema.now c.args.first.now c.args.second.now) c.in_ok-index.index c.in_ok-index.ensures

pub returns : goal.returns
returns c =
    c.finished.ensures (query_plan c.args.schema.now c.args.first.now c.args.second.now)
    (makes-built c.new-builder.result c.pair_node.new.builder (query_plan c.args.schema.now c.args.first.now c.args.second.now) c.in_ok-index.index c.new-builder.ensures.tests c.in_ok-index.ensures)
