use Rattle.std.proofs.Common.{◌≡◌, ℕ, List, Option, inl, inr, option_map, rules, subst}
use Rattle.std.proofs.lemmas.Result.{err_from_is_err_and}
use Rattle.command_words.specs.Asked.{SummaryCheck, summary_check_in, texts_in}
use Rattle.run_inputs.specs.declared.pair.Pair.{Pair}
use Rattle.run_inputs.specs.declared.printed.Printed.{Printed}
use Rattle.run_inputs.proofs.FileLaws.{if_answered_weaker, or_answered_weaker}
use Rattle.run_inputs.proofs.Laws.{of_pair}
use Rattle.run_inputs.specs.Pairs.{Contents, IsPairRefusal, contents}
use Rattle.run_inputs.specs.Refusals.{IsRefusedBy}
use Rattle.access_answers.specs.NewAccessChecked.{IsNewAccessCheckPrinted, IsNewAccessJudged}
use Rattle.access_answers.proofs.check.print_new_access_check.Goals as goal

pub returns-in_err-pair : goal.returns-in_err-pair
returns-in_err-pair c =
    let asked : SummaryCheck = summary_check_in c.args.arguments.now in
    let files : Contents = contents c.args.first.now c.args.second.now (option_map (λ f. f.now) c.args.schema) in
    let p = err_from_is_err_and c.from_residual.result c.from_residual.ensures.1 in
    rw (p.1, p.2) (if_answered_weaker _ (IsRefusedBy (IsPairRefusal files)) (IsNewAccessCheckPrinted asked c.args.proof.now files) (λ p v. inl v) c.in_err-pair.ensures.read)

pub returns : goal.returns
returns c =
    let asked : SummaryCheck = summary_check_in c.args.arguments.now in
    let files : Contents = contents c.args.first.now c.args.second.now (option_map (λ f. f.now) c.args.schema) in
    let pair = c.in_ok-pair.pair in
    let names = texts_in c.as_slice.result.now in
    let same : names ≡ asked.dimensions = search rules in
    let of_files : (p : Printed) → IsNewAccessJudged names asked.states c.args.proof.now pair p → IsNewAccessCheckPrinted asked c.args.proof.now files p =
    λ p v. inr (of_pair files pair (λ (o : Pair). IsNewAccessJudged asked.dimensions asked.states c.args.proof.now o p) c.in_ok-pair.ensures.read
    (subst (λ (ws : List (List ℕ)). IsNewAccessJudged ws asked.states c.args.proof.now pair p) same v)) in
    or_answered_weaker c.print_pair_check.result _ _ _ _ of_files of_files c.print_pair_check.ensures
