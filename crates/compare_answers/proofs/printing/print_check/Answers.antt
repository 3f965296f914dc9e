use Rattle.std.proofs.Common.{inl, inr, option_map}
use Rattle.std.proofs.lemmas.Result.{err_from_is_err_and}
use Rattle.run_inputs.specs.declared.printed.Printed.{Printed}
use Rattle.run_inputs.proofs.FileLaws.{if_answered_weaker, or_answered_weaker}
use Rattle.run_inputs.specs.Pairs.{Contents, IsPairRefusal, contents}
use Rattle.run_inputs.specs.Refusals.{IsRefusedBy}
use Rattle.run_inputs.proofs.Laws.{of_pair}
use Rattle.compare_answers.specs.Printed.{IsCheckOfPair, IsCheckPrinted}
use Rattle.compare_answers.proofs.printing.print_check.Goals as goal

pub returns-in_err-pair : goal.returns-in_err-pair
returns-in_err-pair c =
    let files : Contents = contents c.args.first.now c.args.second.now (option_map (λ f. f.now) c.args.schema) in
    let proof = c.args.proof.now in
    let says : (p : Printed) → IsRefusedBy (IsPairRefusal files) p → IsCheckPrinted proof files p = λ p v. inl v in
    let p = err_from_is_err_and c.from_residual.result c.from_residual.ensures.1 in
    rw (p.1, p.2) (if_answered_weaker _ (IsRefusedBy (IsPairRefusal files)) (IsCheckPrinted proof files) says c.in_err-pair.ensures.read)

pub returns : goal.returns
returns c =
    let files : Contents = contents c.args.first.now c.args.second.now (option_map (λ f. f.now) c.args.schema) in
    let proof = c.args.proof.now in
    let of_files : (p : Printed) → IsCheckOfPair proof c.in_ok-pair.pair p → IsCheckPrinted proof files p =
    λ p v. inr (of_pair files c.in_ok-pair.pair (λ pair. IsCheckOfPair proof pair p) c.in_ok-pair.ensures.read v) in
    or_answered_weaker c.print_pair_check.result _ _ _ _ of_files of_files c.print_pair_check.ensures
