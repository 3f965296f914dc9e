-- The search finds this unasked; asked for here, a wrong body is refused without a longer search.
use Rattle.std.proofs.Common.{rules}
use Rattle.request_json.proofs.write.value_text.Goals as goal

pub returns-in-Bytes : goal.returns-in-Bytes
returns-in-Bytes c = search rules
