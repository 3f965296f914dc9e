use Rattle.std.proofs.Common.{ℕ, List, Option, inl, inr, option_map}
use Rattle.std.proofs.lemmas.Result.{err_from_is_err_and}
use Rattle.command_words.specs.Asked.{UseQuestion, use_question_in}
use Rattle.run_inputs.specs.declared.printed.Printed.{Printed}
use Rattle.run_inputs.proofs.FileLaws.{if_answered_weaker, or_answered_weaker}
use Rattle.run_inputs.specs.OneSets.{IsOneSetRefusal, SetContents, set_contents}
use Rattle.run_inputs.specs.Refusals.{IsRefusedBy}
use Rattle.run_inputs.proofs.Laws.{of_one}
use Rattle.idle_answers.specs.UsesPrinted.{AreUsesPrinted, IsIdlePrinted, use_budgets}
use Rattle.idle_answers.proofs.printing.print_idle.Goals as goal

pub returns-in_err-one : goal.returns-in_err-one
returns-in_err-one c =
    let u : UseQuestion = use_question_in c.args.arguments.now in
    let file : Option (List ℕ) = option_map (λ f. f.now) c.args.schema in
    let files : SetContents = set_contents c.args.set.now file in
    let says : (p : Printed) → IsRefusedBy (IsOneSetRefusal c.args.set.now file) p → IsIdlePrinted u files p = λ p v. inl v in
    let p = err_from_is_err_and c.from_residual.result c.from_residual.ensures.1 in
    rw (p.1, p.2) (if_answered_weaker _ (IsRefusedBy (IsOneSetRefusal c.args.set.now file)) (IsIdlePrinted u files) says c.in_err-one.ensures.read)

pub returns : goal.returns
returns c =
    let u : UseQuestion = use_question_in c.args.arguments.now in
    let file : Option (List ℕ) = option_map (λ f. f.now) c.args.schema in
    let files : SetContents = set_contents c.args.set.now file in
    let of_files : (p : Printed) → AreUsesPrinted u.certified (use_budgets u) c.in_ok-one.one p → IsIdlePrinted u files p =
    λ p v. inr (of_one c.args.set.now file c.in_ok-one.one (λ one. AreUsesPrinted u.certified (use_budgets u) one p) c.in_ok-one.ensures.read v) in
    or_answered_weaker c.print_uses.result _ _ _ _ of_files of_files c.print_uses.ensures
