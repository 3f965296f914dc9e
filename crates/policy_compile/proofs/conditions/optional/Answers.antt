use Rattle.std.proofs.Common.{refl}
use Rattle.policy_compile.specs.Conditions.{optional_plans}
use Rattle.policy_compile.proofs.Steps.{Added-within, one_of-built, from-empty}
use Rattle.policy_compile.proofs.conditions.optional.Goals as goal

pub insert-requires : goal.insert-requires
insert-requires c =
    let plans = optional_plans c.args.kind c.args.condition.now in
    Added-within c.args.builder.now c.add_optional.new.builder plans c.add_optional.new.indices
    (from-empty c.args.builder.now c.add_optional.new.builder plans plans c.new-indices.result c.add_optional.new.indices c.new-indices.ensures refl c.in_ok-add_optional.ensures)

pub returns : goal.returns
returns c =
    let plans = optional_plans c.args.kind c.args.condition.now in
    one_of-built c.args.builder.now c.add_optional.new.builder c.insert.new.self plans c.add_optional.new.indices c.in_ok-index.index
    (from-empty c.args.builder.now c.add_optional.new.builder plans plans c.new-indices.result c.add_optional.new.indices c.new-indices.ensures refl c.in_ok-add_optional.ensures)
    c.in_ok-index.ensures
