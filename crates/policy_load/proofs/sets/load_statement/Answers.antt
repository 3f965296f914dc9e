use Rattle.std.proofs.Common.{rules, lit≤}
use Rattle.std.specs.Str.{chars}
use Rattle.policy_load.proofs.sets.load_statement.Goals as goal

pub glob-requires : goal.glob-requires
unfolding chars
glob-requires c = lit≤ tt

pub returns : goal.returns
returns c = search rules
