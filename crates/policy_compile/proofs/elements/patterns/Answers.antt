use Rattle.std.proofs.Common.{ap}
use Rattle.policy_compile.specs.Sets.{pattern_plans}
use Rattle.policy_compile.proofs.Steps.{Added-within, from-empty}
use Rattle.policy_compile.proofs.elements.patterns.Goals as goal

pub some_or_none-requires : goal.some_or_none-requires
some_or_none-requires c =
    Added-within c.args.builder.now c.add_patterns.new.builder (pattern_plans c.args.word c.args.matcher.now.items) c.add_patterns.new.indices
    (from-empty c.args.builder.now c.add_patterns.new.builder (pattern_plans c.args.word c.as_slice.result.now) (pattern_plans c.args.word c.args.matcher.now.items) c.new-indices.result c.add_patterns.new.indices c.new-indices.ensures (ap (pattern_plans c.args.word) c.as_slice.ensures) c.in_ok-add_patterns.ensures)

pub returns : goal.returns
returns c =
    c.some_or_none.ensures c.args.builder.now (pattern_plans c.args.word c.args.matcher.now.items)
    (from-empty c.args.builder.now c.add_patterns.new.builder (pattern_plans c.args.word c.as_slice.result.now) (pattern_plans c.args.word c.args.matcher.now.items) c.new-indices.result c.add_patterns.new.indices c.new-indices.ensures (ap (pattern_plans c.args.word) c.as_slice.ensures) c.in_ok-add_patterns.ensures)
