use Rattle.std.proofs.Common.{rules, lit≤}
use Rattle.std.specs.Str.{chars}
use Rattle.policy_load.proofs.keys.load_values.Goals as goal

pub literal-requires : goal.literal-requires
unfolding chars
literal-requires c = lit≤ tt

pub literal-requires-2 : goal.literal-requires-2
unfolding chars
literal-requires-2 c = lit≤ tt

pub returns : goal.returns
returns c = search rules
