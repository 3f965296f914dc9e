use Rattle.std.proofs.Common.{ℕ, List, Option, inl, inr, option_map}
use Rattle.std.proofs.lemmas.Result.{err_from_is_err_and}
use Rattle.run_inputs.specs.declared.printed.Printed.{Printed}
use Rattle.run_inputs.proofs.FileLaws.{if_answered_weaker, or_answered_weaker}
use Rattle.run_inputs.specs.OneSets.{IsOneSetRefusal}
use Rattle.run_inputs.specs.Refusals.{IsRefusedBy}
use Rattle.run_inputs.proofs.Laws.{of_one}
use Rattle.eval_answers.specs.Evaluated.{EvaluationContents, IsEvaluationPrinted, IsRequestPrinted, evaluation_contents}
use Rattle.eval_answers.proofs.evaluation.print_evaluation.Goals as goal

pub returns-in_err-one : goal.returns-in_err-one
returns-in_err-one c =
    let file : Option (List ℕ) = option_map (λ f. f.now) c.args.schema in
    let files : EvaluationContents = evaluation_contents c.args.set.now c.args.request.now file in
    let says : (p : Printed) → IsRefusedBy (IsOneSetRefusal c.args.set.now file) p → IsEvaluationPrinted files p = λ p v. inl v in
    let p = err_from_is_err_and c.from_residual.result c.from_residual.ensures.1 in
    rw (p.1, p.2) (if_answered_weaker _ (IsRefusedBy (IsOneSetRefusal c.args.set.now file)) (IsEvaluationPrinted files) says c.in_err-one.ensures.read)

pub returns : goal.returns
returns c =
    let file : Option (List ℕ) = option_map (λ f. f.now) c.args.schema in
    let files : EvaluationContents = evaluation_contents c.args.set.now c.args.request.now file in
    let of_files : (p : Printed) → IsRequestPrinted c.args.request.now c.in_ok-one.one p → IsEvaluationPrinted files p =
    λ p v. inr (of_one c.args.set.now file c.in_ok-one.one (λ one. IsRequestPrinted c.args.request.now one p) c.in_ok-one.ensures.read v) in
    or_answered_weaker c.print_request.result _ _ _ _ of_files of_files c.print_request.ensures
