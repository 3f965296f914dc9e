use Rattle.std.proofs.Common.{refl}
use Rattle.policy_compile.specs.Conditions.{group_plans}
use Rattle.policy_compile.proofs.Steps.{Added-within, all-built, from-empty}
use Rattle.policy_compile.proofs.conditions.group.Goals as goal

pub insert-requires : goal.insert-requires
insert-requires c =
    let plans = group_plans c.args.schema.now c.args.group.now in
    Added-within c.args.builder.now c.add_keys.new.builder plans c.add_keys.new.indices
    (from-empty c.args.builder.now c.add_keys.new.builder plans plans c.new-indices.result c.add_keys.new.indices c.new-indices.ensures refl c.in_ok-add_keys.ensures)

pub returns : goal.returns
returns c =
    let plans = group_plans c.args.schema.now c.args.group.now in
    all-built c.args.builder.now c.add_keys.new.builder c.insert.new.self plans c.add_keys.new.indices c.in_ok-index.index
    (from-empty c.args.builder.now c.add_keys.new.builder plans plans c.new-indices.result c.add_keys.new.indices c.new-indices.ensures refl c.in_ok-add_keys.ensures)
    c.in_ok-index.ensures
