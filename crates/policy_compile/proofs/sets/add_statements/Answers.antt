use Rattle.std.proofs.Common.{◌∷◌, []}
use Rattle.policy_model.specs.declared.set.Statement.{Statement}
use Rattle.policy_compile.specs.Sets.{statement_plan, statement_plans, where_same}
use Rattle.policy_compile.proofs.Steps.{Added-nothing, item-added, item-fails, items-added, plans-fault}
use Rattle.policy_compile.proofs.sets.add_statements.Goals as goal

pub loop-item-init : goal.loop-item-init
loop-item-init c = Added-nothing c.args.builder.now c.args.indices.now

pub returns-in_err-add_statement : goal.returns-in_err-add_statement
returns-in_err-add_statement c =
    plans-fault c.args.builder.now c.add_statement.new.builder (statement_plans c.args.schema.now c.args.allow c.args.items.now) c.args.indices.now c.add_statement.new.indices c.from_residual.result c.in_err-add_statement.field-0.0 c.from_residual.ensures.1
    (item-fails (λ (s : Statement). where_same c.args.allow s.allow (statement_plan c.args.schema.now s ∷ [])) c.args.items.now c.loop-item.item-index c.item-item.result c.loop-item-test.true c.item-item.is c.args.builder.now c.loop-item.builder c.args.indices.now c.loop-item.indices c.in_err-add_statement.field-0.0 c.loop-item.invariant c.in_err-add_statement.ensures)

pub loop-item-preserved : goal.loop-item-preserved
loop-item-preserved c =
    item-added (λ (s : Statement). where_same c.args.allow s.allow (statement_plan c.args.schema.now s ∷ [])) c.args.items.now c.loop-item.item-index c.item-item.result c.loop-item-test.true c.item-item.is c.args.builder.now c.loop-item.builder c.add_statement.new.builder c.args.indices.now c.loop-item.indices c.add_statement.new.indices c.loop-item.invariant
    c.in_ok-add_statement.ensures

pub returns : goal.returns
returns c = items-added (λ (s : Statement). where_same c.args.allow s.allow (statement_plan c.args.schema.now s ∷ [])) c.args.items.now c.loop-item.item-index c.loop-item-test.false c.args.builder.now c.loop-item.builder c.args.indices.now c.loop-item.indices c.loop-item.invariant
