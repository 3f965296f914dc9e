use Rattle.std.proofs.Common.{refl}
use Rattle.policy_compile.specs.Sets.{set_plans}
use Rattle.policy_compile.proofs.Steps.{Added-within, all-built, from-empty}
use Rattle.policy_compile.proofs.sets.set_node.Goals as goal

pub insert-requires : goal.insert-requires
insert-requires c =
    Added-within c.args.builder.now c.add_parts.new.builder (set_plans c.args.schema.now c.args.set.now) c.add_parts.new.indices
    (from-empty c.args.builder.now c.add_parts.new.builder (set_plans c.args.schema.now c.args.set.now) (set_plans c.args.schema.now c.args.set.now) c.new-indices.result c.add_parts.new.indices c.new-indices.ensures refl c.in_ok-add_parts.ensures)

pub returns : goal.returns
returns c =
    all-built c.args.builder.now c.add_parts.new.builder c.insert.new.self (set_plans c.args.schema.now c.args.set.now) c.add_parts.new.indices c.in_ok-index.index
    (from-empty c.args.builder.now c.add_parts.new.builder (set_plans c.args.schema.now c.args.set.now) (set_plans c.args.schema.now c.args.set.now) c.new-indices.result c.add_parts.new.indices c.new-indices.ensures refl c.in_ok-add_parts.ensures)
    c.in_ok-index.ensures
