-- The search finds this unasked; said here, a wrong body is refused without a longer search.
use Rattle.run_inputs.specs.declared.refusal.Refusal.TheVariants as refusal
use Rattle.run_inputs.proofs.Laws.{refused_by}
use Rattle.run_inputs.specs.PastLimits.{IsPlanPastLimit}
use Rattle.summary_answers.specs.Subjects.{subject_plan}
use Rattle.summary_answers.proofs.summary.query_of.Goals as goal

pub returns-in-Err-TooManyTests : goal.returns-in-Err-TooManyTests
returns-in-Err-TooManyTests c =
    refused_by c.refused.result refusal.TooManyTests (IsPlanPastLimit (subject_plan c.args.subject.now)) (rw c.in-Err-TooManyTests.field-0-is at c.in-Err-TooManyTests.ensures) c.refused.ensures
