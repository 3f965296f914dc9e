use Rattle.std.proofs.Common.{false, inl, inr, subst}
use Rattle.std.proofs.lemmas.Result.{err_from_is_err_and}
use Rattle.run_inputs.specs.declared.printed.Printed.{Printed}
use Rattle.run_inputs.proofs.FileLaws.{if_answered_weaker, or_answered_weaker}
use Rattle.run_inputs.specs.Pairs.{IsPairRunRefusal}
use Rattle.run_inputs.specs.Refusals.{IsRefusedBy}
use Rattle.compare_answers.specs.Printed.{IsPairPrinted}
use Rattle.load_answers.specs.Loaded.{ComparesSets, default_budgets}
use Rattle.load_answers.proofs.Lines.{run_same}
use Rattle.load_answers.proofs.loading.compared.Goals as goal

pub returns-in_err-pair : goal.returns-in_err-pair
returns-in_err-pair c =
    let named = c.args.named.now in
    let says : (p : Printed) → IsRefusedBy (IsPairRunRefusal named c.args.first c.args.second) p → ComparesSets named c.args.first c.args.second p = λ p v. inl v in
    let p = err_from_is_err_and c.from_residual.result c.from_residual.ensures.1 in
    rw (p.1, p.2) (if_answered_weaker _ (IsRefusedBy (IsPairRunRefusal named c.args.first c.args.second)) (ComparesSets named c.args.first c.args.second) says c.in_err-pair.ensures.run)

pub returns : goal.returns
returns c =
    let named = c.args.named.now in
    let pair = c.in_ok-pair.pair in
    let says : (p : Printed) → IsPairPrinted false c.default_budgets.result pair p → ComparesSets named c.args.first c.args.second p =
    λ p v. inr (run_same named c.args.first c.args.second pair (λ x. IsPairPrinted false default_budgets x p) c.in_ok-pair.ensures.run (subst (λ b. IsPairPrinted false b pair p) c.default_budgets.ensures v)) in
    or_answered_weaker c.print_pair.result _ _ _ _ says says c.print_pair.ensures
