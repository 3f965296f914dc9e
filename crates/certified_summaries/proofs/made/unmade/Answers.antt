-- Said here, a wrong body is refused without a longer search.
use Rattle.certified_summaries.proofs.made.unmade.Goals as goal

pub returns-in-TooManyPredicates : goal.returns-in-TooManyPredicates
returns-in-TooManyPredicates c = rw c.in-TooManyPredicates.is (c.ended.ensures _ c.too_many_line.ensures)

pub returns-in-Wide : goal.returns-in-Wide
returns-in-Wide c = rw c.in-Wide.is (c.ended-in-Wide.ensures _ c.shortage_text.ensures)
