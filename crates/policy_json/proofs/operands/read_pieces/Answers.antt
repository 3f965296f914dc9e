-- The search finds this unasked; asked for here, a wrong body is refused without a longer search.
use Rattle.std.proofs.Common.{rules}
use Rattle.policy_json.proofs.operands.read_pieces.Goals as goal

pub returns-in-StringEquals : goal.returns-in-StringEquals
returns-in-StringEquals c = search rules
