-- The search finds this unasked; asked for here, a wrong body is refused without a longer search.
use Rattle.std.proofs.Common.{rules}
use Rattle.proof_text.proofs.lines.split_line.Goals as goal

pub returns-then-around-ge-MOST_NESTING : goal.returns-then-around-ge-MOST_NESTING
returns-then-around-ge-MOST_NESTING c = search rules

pub returns : goal.returns
returns c = search rules
