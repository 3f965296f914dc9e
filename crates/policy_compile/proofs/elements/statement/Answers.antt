use Rattle.std.proofs.Common.{refl}
use Rattle.policy_compile.specs.Sets.{element_plans}
use Rattle.policy_compile.proofs.Steps.{Added-within, all-built, from-empty}
use Rattle.policy_compile.proofs.elements.statement.Goals as goal

pub insert-requires : goal.insert-requires
insert-requires c =
    Added-within c.args.builder.now c.add_elements.new.builder (element_plans c.args.schema.now c.args.statement.now) c.add_elements.new.indices
    (from-empty c.args.builder.now c.add_elements.new.builder (element_plans c.args.schema.now c.args.statement.now) (element_plans c.args.schema.now c.args.statement.now) c.new-indices.result c.add_elements.new.indices c.new-indices.ensures refl c.in_ok-add_elements.ensures)

pub returns : goal.returns
returns c =
    all-built c.args.builder.now c.add_elements.new.builder c.insert.new.self (element_plans c.args.schema.now c.args.statement.now) c.add_elements.new.indices c.in_ok-index.index
    (from-empty c.args.builder.now c.add_elements.new.builder (element_plans c.args.schema.now c.args.statement.now) (element_plans c.args.schema.now c.args.statement.now) c.new-indices.result c.add_elements.new.indices c.new-indices.ensures refl c.in_ok-add_elements.ensures)
    c.in_ok-index.ensures
