use Rattle.std.proofs.Common.{refl}
use Rattle.policy_compile.specs.Conditions.{meets_plans}
use Rattle.policy_compile.proofs.Steps.{Added-within, one_of-built, from-empty}
use Rattle.policy_compile.proofs.conditions.some_meets.Goals as goal

pub insert-requires : goal.insert-requires
insert-requires c =
    let plans = meets_plans c.args.kind c.args.condition.now in
    Added-within c.args.builder.now c.add_meets.new.builder plans c.add_meets.new.indices
    (from-empty c.args.builder.now c.add_meets.new.builder plans plans c.new-indices.result c.add_meets.new.indices c.new-indices.ensures refl c.in_ok-add_meets.ensures)

pub returns : goal.returns
returns c =
    let plans = meets_plans c.args.kind c.args.condition.now in
    one_of-built c.args.builder.now c.add_meets.new.builder c.insert.new.self plans c.add_meets.new.indices c.in_ok-index.index
    (from-empty c.args.builder.now c.add_meets.new.builder plans plans c.new-indices.result c.add_meets.new.indices c.new-indices.ensures refl c.in_ok-add_meets.ensures)
    c.in_ok-index.ensures
