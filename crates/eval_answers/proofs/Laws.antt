-- What is printed of a request, and which statuses it has.
use Rattle.std.proofs.Common.{◌≡◌, ◌⊎◌, ℕ, List, inl, inr}
use Rattle.run_inputs.specs.declared.printed.Printed.{Printed}
use Rattle.run_inputs.specs.declared.status.Status.TheVariants as status
use Rattle.run_inputs.specs.Printing.{IsOfText, PrintsText}
use Rattle.run_inputs.specs.declared.one_set.OneSet.{OneSet}
use Rattle.run_inputs.specs.OneSets.{one_of}
use Rattle.run_inputs.proofs.Laws.{no_one_fails, of_same_set, with_status}
use Rattle.eval_answers.specs.declared.answer.Evaluation.{Evaluation}
use Rattle.eval_answers.specs.declared.answer.Evaluation.TheVariants as answer
use Rattle.eval_answers.specs.Evaluated.{EvaluationContents, EvaluationsDecide, IsAnyRequest, IsEvaluationPrinted, IsRequestPrinted, OfRequest}
use Rattle.eval_answers.specs.Sayings.{evaluation_status, evaluation_text}

-- ---- statuses

answer_with : (p : Printed) (a : Evaluation) → PrintsText (evaluation_text a) (evaluation_status a) p → IsOfText p.status
answer_with p (answer.Allowed name) told = with_status p status.Holds tt told.1
answer_with p (answer.Denied denial) told = with_status p status.Fails tt told.1

request_with : (bytes : List ℕ) (one : OneSet) (p : Printed) → IsRequestPrinted bytes one p → IsOfText p.status
request_with bytes one p (inl fault) = with_status p status.Refused tt fault.prints.1
request_with bytes one p (inr of) = answer_with p of.holds.answer of.holds.prints

pub evaluation_of_text : (c : EvaluationContents) (p : Printed) → IsEvaluationPrinted c p → IsOfText p.status
evaluation_of_text c p (inl (r, none, told)) = with_status p status.Refused tt told.1
evaluation_of_text c p (inr of) = request_with c.request _ p of.holds.holds

-- ---- requests that are decided

answer_decides : (p : Printed) (a : Evaluation) → PrintsText (evaluation_text a) (evaluation_status a) p → (p.status ≡ status.Holds) ⊎ (p.status ≡ status.Fails)
answer_decides p (answer.Allowed name) told = inl told.1
answer_decides p (answer.Denied denial) told = inr told.1

request_decides : (bytes : List ℕ) (one : OneSet) (p : Printed) → OfRequest one.schema bytes IsAnyRequest → IsRequestPrinted bytes one p → (p.status ≡ status.Holds) ⊎ (p.status ≡ status.Fails)
request_decides bytes one p d (inl fault) = let stands = d.stands in let first = fault.first in absurd (cc)
request_decides bytes one p d (inr of) = answer_decides p of.holds.answer of.holds.prints

pub evaluations_decide : EvaluationsDecide
evaluations_decide c p d (inl (r, none, told)) = absurd (no_one_fails c.set c.schema (λ one. OfRequest one.schema c.request IsAnyRequest) d r none)
evaluations_decide c p d (inr of) =
    let same = of_same_set c.set c.schema _ _ d of in
    request_decides c.request (one_of d.named d.set) p d.holds.holds same.holds
