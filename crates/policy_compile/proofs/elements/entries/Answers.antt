use Rattle.std.proofs.Common.{ap}
use Rattle.policy_compile.specs.Sets.{entry_plans}
use Rattle.policy_compile.proofs.Steps.{Added-within, from-empty}
use Rattle.policy_compile.proofs.elements.entries.Goals as goal

pub some_or_none-requires : goal.some_or_none-requires
some_or_none-requires c =
    Added-within c.args.builder.now c.add_entries.new.builder (entry_plans c.args.matcher.now.items) c.add_entries.new.indices
    (from-empty c.args.builder.now c.add_entries.new.builder (entry_plans c.as_slice.result.now) (entry_plans c.args.matcher.now.items) c.new-indices.result c.add_entries.new.indices c.new-indices.ensures (ap (entry_plans) c.as_slice.ensures) c.in_ok-add_entries.ensures)

pub returns : goal.returns
returns c =
    c.some_or_none.ensures c.args.builder.now (entry_plans c.args.matcher.now.items)
    (from-empty c.args.builder.now c.add_entries.new.builder (entry_plans c.as_slice.result.now) (entry_plans c.args.matcher.now.items) c.new-indices.result c.add_entries.new.indices c.new-indices.ensures (ap (entry_plans) c.as_slice.ensures) c.in_ok-add_entries.ensures)
