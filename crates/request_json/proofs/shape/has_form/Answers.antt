-- The search finds this unasked; asked for here, a wrong body is refused without a longer search.
use Rattle.std.proofs.Common.{rules}
use Rattle.request_json.proofs.shape.has_form.Goals as goal

pub returns-then-is_object_of : goal.returns-then-is_object_of
returns-then-is_object_of c = search rules

pub returns-else-is_object_of : goal.returns-else-is_object_of
returns-else-is_object_of c = search rules
