use Rattle.std.proofs.Common.{List, ap, subst}
use Rattle.policy_model.specs.declared.set.Document.{Document}
use Rattle.policy_compile.specs.Sets.{document_plans, statement_plans}
use Rattle.policy_compile.specs.Building.{Fails}
use Rattle.policy_compile.specs.Plans.{Plan, of_plans, tests_in_each}
use Rattle.policy_compile.proofs.Steps.{Added-nothing, at-plans, item-added, item-fails, items-added, plans-fault}
use Rattle.policy_compile.proofs.sets.add_documents.Goals as goal

pub loop-item-init : goal.loop-item-init
loop-item-init c = Added-nothing c.args.builder.now c.args.indices.now

pub returns-in_err-add_statements : goal.returns-in_err-add_statements
returns-in_err-add_statements c =
    plans-fault c.args.builder.now c.add_statements.new.builder (document_plans c.args.schema.now c.args.allow c.args.items.now) c.args.indices.now c.add_statements.new.indices c.from_residual.result c.in_err-add_statements.field-0.0 c.from_residual.ensures.1
    (item-fails (λ (d : Document). statement_plans c.args.schema.now c.args.allow d.statements) c.args.items.now c.loop-item.item-index c.item-item.result c.loop-item-test.true c.item-item.is c.args.builder.now c.loop-item.builder c.args.indices.now c.loop-item.indices c.in_err-add_statements.field-0.0 c.loop-item.invariant
    (subst (λ (ps : List Plan). Fails c.loop-item.builder.tests.keys (tests_in_each (of_plans ps)) c.in_err-add_statements.field-0.0) (ap (statement_plans c.args.schema.now c.args.allow) c.as_slice.ensures) c.in_err-add_statements.ensures))

pub loop-item-preserved : goal.loop-item-preserved
loop-item-preserved c =
    item-added (λ (d : Document). statement_plans c.args.schema.now c.args.allow d.statements) c.args.items.now c.loop-item.item-index c.item-item.result c.loop-item-test.true c.item-item.is c.args.builder.now c.loop-item.builder c.add_statements.new.builder c.args.indices.now c.loop-item.indices c.add_statements.new.indices c.loop-item.invariant
    (at-plans c.loop-item.builder c.add_statements.new.builder (statement_plans c.args.schema.now c.args.allow c.as_slice.result.now) (statement_plans c.args.schema.now c.args.allow c.item-item.result.statements) c.loop-item.indices c.add_statements.new.indices (ap (statement_plans c.args.schema.now c.args.allow) c.as_slice.ensures) c.in_ok-add_statements.ensures)

pub returns : goal.returns
returns c = items-added (λ (d : Document). statement_plans c.args.schema.now c.args.allow d.statements) c.args.items.now c.loop-item.item-index c.loop-item-test.false c.args.builder.now c.loop-item.builder c.args.indices.now c.loop-item.indices c.loop-item.invariant
