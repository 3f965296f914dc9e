-- The search finds this unasked; asked for here, a wrong body is refused without a longer search.
use Rattle.std.proofs.Common.{rules}
use Rattle.refute_check.proofs.verdict.walk_whole.Goals as goal

pub walk-requires-clause-ready : goal.walk-requires-clause-ready
walk-requires-clause-ready c =
    record { sound = c.requires.sound; suit = c.requires.suit; count = c.requires.count; clauses = search rules }
