use Rattle.std.proofs.Common.{inl}
use Rattle.std.proofs.lemmas.Result.{err_from_is_err_and}
use Rattle.run_inputs.specs.declared.printed.Printed.{Printed}
use Rattle.run_inputs.proofs.FileLaws.{if_answered_weaker}
use Rattle.eval_answers.specs.Evaluated.{IsRequestFault, IsRequestPrinted}
use Rattle.eval_answers.proofs.evaluation.print_request.Goals as goal

pub returns-in_err-request : goal.returns-in_err-request
returns-in_err-request c =
    let one = c.args.one.now in
    let bytes = c.args.request.now in
    let says : (p : Printed) → IsRequestFault one.schema bytes p → IsRequestPrinted bytes one p = λ p v. inl v in
    let p = err_from_is_err_and c.from_residual.result c.from_residual.ensures.1 in
    rw (p.1, p.2) (if_answered_weaker _ (IsRequestFault one.schema bytes) (IsRequestPrinted bytes one) says c.in_err-request.ensures)
