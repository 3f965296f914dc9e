use Rattle.std.proofs.Common.{◌∷◌, [], sym}
use Rattle.policy_compile.specs.Sets.{statement_plan, where_same}
use Rattle.policy_compile.proofs.Steps.{Added-nothing, Added-one, at-plans, where_same-other, where_same-same}
use Rattle.policy_compile.proofs.sets.add_statement.Goals as goal

pub returns-then-item-allow : goal.returns-then-item-allow
returns-then-item-allow c =
    let plans = statement_plan c.args.schema.now c.args.item.now ∷ [] in
    at-plans c.args.builder.now c.args.builder.now [] (where_same c.args.allow c.args.item.now.allow plans) c.args.indices.now c.args.indices.now
    (sym (where_same-other c.args.allow c.args.item.now.allow plans c.if-item-allow.true)) (Added-nothing c.args.builder.now c.args.indices.now)

pub returns : goal.returns
returns c =
    let plans = statement_plan c.args.schema.now c.args.item.now ∷ [] in
    at-plans c.args.builder.now c.statement.new.builder plans (where_same c.args.allow c.args.item.now.allow plans) c.args.indices.now c.push.new.self
    (sym (where_same-same c.args.allow c.args.item.now.allow plans c.if-item-allow.false))
    (Added-one c.args.builder.now c.statement.new.builder (statement_plan c.args.schema.now c.args.item.now) c.in_ok-index.index c.args.indices.now c.push.new.self c.in_ok-index.ensures c.in_ok-push.ensures.ok)
