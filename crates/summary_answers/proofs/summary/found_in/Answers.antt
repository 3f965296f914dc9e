-- The search finds most of these unasked; said here, a wrong body is refused without a longer search.
use Rattle.std.proofs.Common.{◌≡◌, refl, rules, subst}
use Rattle.summary_answers.specs.Found.{AreWellKept}
use Rattle.summary_answers.proofs.summary.found_in.Goals as goal

pub returns-in-Found : goal.returns-in-Found
returns-in-Found c =
    let same : c.as_slice.result.now ≡ c.in-Found.summary = search rules in
    record { asked = refl; is = c.in-Found.is; kept = subst AreWellKept same c.requests_are_well_kept.ensures }

pub returns-in-TooManyPredicates : goal.returns-in-TooManyPredicates
returns-in-TooManyPredicates c = rw c.in-TooManyPredicates.is (c.ended.ensures _ c.too_many_line.ensures)

pub returns-in-Wide : goal.returns-in-Wide
returns-in-Wide c = rw c.in-Wide.is (c.ended-in-Wide.ensures _ c.shortage_text.ensures)

pub returns-in-OutOfFindings : goal.returns-in-OutOfFindings
returns-in-OutOfFindings c = rw c.in-OutOfFindings.is (c.ended-in-OutOfFindings.ensures _ c.findings_line.ensures)

pub returns-in-OutOfSplits : goal.returns-in-OutOfSplits
returns-in-OutOfSplits c = rw c.in-OutOfSplits.is (c.ended-in-OutOfSplits.ensures _ c.splits_line-line.ensures)

pub returns-in-OutOfStates : goal.returns-in-OutOfStates
returns-in-OutOfStates c = rw c.in-OutOfStates.is (c.ended-in-OutOfStates.ensures _ c.states_line-line.ensures)
