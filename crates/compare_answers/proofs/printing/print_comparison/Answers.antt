use Rattle.std.proofs.Common.{inl, inr, option_map}
use Rattle.std.proofs.lemmas.Result.{err_from_is_err_and}
use Rattle.command_words.specs.Asked.{Comparing, comparing_in}
use Rattle.run_inputs.specs.declared.printed.Printed.{Printed}
use Rattle.run_inputs.proofs.FileLaws.{if_answered_weaker, or_answered_weaker}
use Rattle.run_inputs.specs.Pairs.{Contents, IsPairRefusal, contents}
use Rattle.run_inputs.specs.Refusals.{IsRefusedBy}
use Rattle.run_inputs.proofs.Laws.{of_pair}
use Rattle.compare_answers.specs.Printed.{IsComparisonPrinted, IsPairPrinted, budgets_of}
use Rattle.compare_answers.proofs.printing.print_comparison.Goals as goal

pub returns-in_err-pair : goal.returns-in_err-pair
returns-in_err-pair c =
    let asked : Comparing = comparing_in c.args.arguments.now in
    let files : Contents = contents c.args.first.now c.args.second.now (option_map (λ f. f.now) c.args.schema) in
    let says : (p : Printed) → IsRefusedBy (IsPairRefusal files) p → IsComparisonPrinted asked files p = λ p v. inl v in
    let p = err_from_is_err_and c.from_residual.result c.from_residual.ensures.1 in
    rw (p.1, p.2) (if_answered_weaker _ (IsRefusedBy (IsPairRefusal files)) (IsComparisonPrinted asked files) says c.in_err-pair.ensures.read)

pub returns : goal.returns
returns c =
    let asked : Comparing = comparing_in c.args.arguments.now in
    let files : Contents = contents c.args.first.now c.args.second.now (option_map (λ f. f.now) c.args.schema) in
    let of_files : (p : Printed) → IsPairPrinted asked.certified (budgets_of asked) c.in_ok-pair.pair p → IsComparisonPrinted asked files p =
    λ p v. inr (of_pair files c.in_ok-pair.pair (λ pair. IsPairPrinted asked.certified (budgets_of asked) pair p) c.in_ok-pair.ensures.read v) in
    or_answered_weaker c.print_pair.result _ _ _ _ of_files of_files c.print_pair.ensures
