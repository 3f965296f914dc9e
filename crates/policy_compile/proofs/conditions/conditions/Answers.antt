use Rattle.std.proofs.Common.{refl}
use Rattle.policy_compile.specs.Conditions.{operator_plans}
use Rattle.policy_compile.proofs.Steps.{Added-within, all-built, from-empty}
use Rattle.policy_compile.proofs.conditions.conditions.Goals as goal

pub insert-requires : goal.insert-requires
insert-requires c =
    let plans = operator_plans c.args.schema.now c.args.conditions.now in
    Added-within c.args.builder.now c.add_operators.new.builder plans c.add_operators.new.indices
    (from-empty c.args.builder.now c.add_operators.new.builder plans plans c.new-indices.result c.add_operators.new.indices c.new-indices.ensures refl c.in_ok-add_operators.ensures)

pub returns : goal.returns
returns c =
    let plans = operator_plans c.args.schema.now c.args.conditions.now in
    all-built c.args.builder.now c.add_operators.new.builder c.insert.new.self plans c.add_operators.new.indices c.in_ok-index.index
    (from-empty c.args.builder.now c.add_operators.new.builder plans plans c.new-indices.result c.add_operators.new.indices c.new-indices.ensures refl c.in_ok-add_operators.ensures)
    c.in_ok-index.ensures
