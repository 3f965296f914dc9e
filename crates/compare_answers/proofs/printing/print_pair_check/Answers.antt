use Rattle.std.proofs.Common.{inl}
use Rattle.std.proofs.lemmas.Result.{err_from_is_err_and}
use Rattle.run_inputs.specs.declared.printed.Printed.{Printed}
use Rattle.run_inputs.proofs.FileLaws.{if_answered_weaker}
use Rattle.run_inputs.specs.Refusals.{IsRefusedBy}
use Rattle.compare_answers.specs.Decided.{IsPastLimit}
use Rattle.compare_answers.specs.Printed.{IsCheckOfPair}
use Rattle.compare_answers.proofs.printing.print_pair_check.Goals as goal

pub returns-in_err-answer : goal.returns-in_err-answer
returns-in_err-answer c =
    let pair = c.args.pair.now in
    let proof = c.args.proof.now in
    let says : (p : Printed) → IsRefusedBy (IsPastLimit pair) p → IsCheckOfPair proof pair p = λ p v. inl v in
    let p = err_from_is_err_and c.from_residual.result c.from_residual.ensures.1 in
    rw (p.1, p.2) (if_answered_weaker _ (IsRefusedBy (IsPastLimit pair)) (IsCheckOfPair proof pair) says c.in_err-answer.ensures)
