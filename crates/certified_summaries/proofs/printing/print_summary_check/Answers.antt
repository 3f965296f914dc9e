use Rattle.std.proofs.Common.{◌≡◌, ℕ, List, Option, inl, inr, option_map, rules, subst}
use Rattle.std.proofs.lemmas.Result.{err_from_is_err_and}
use Rattle.command_words.specs.Asked.{SummaryCheck, summary_check_in, texts_in}
use Rattle.run_inputs.specs.declared.printed.Printed.{Printed}
use Rattle.run_inputs.proofs.FileLaws.{if_answered_weaker, or_answered_weaker}
use Rattle.run_inputs.proofs.Laws.{of_one}
use Rattle.run_inputs.specs.OneSets.{IsOneSetRefusal, SetContents, set_contents}
use Rattle.run_inputs.specs.Refusals.{IsRefusedBy}
use Rattle.strata.specs.declared.names.TheConstants.{MOST_PREDICATES}
use Rattle.summary_answers.specs.declared.subject.Subject.{Subject}
use Rattle.summary_answers.specs.Subjects.{subject_of_set}
use Rattle.certified_summaries.specs.Judged.{IsSubjectChecked, IsSummaryCheckPrinted}
use Rattle.certified_summaries.proofs.printing.print_summary_check.Goals as goal

pub returns-in_err-one : goal.returns-in_err-one
returns-in_err-one c =
    let asked : SummaryCheck = summary_check_in c.args.arguments.now in
    let file : Option (List ℕ) = option_map (λ f. f.now) c.args.schema in
    let files : SetContents = set_contents c.args.set.now file in
    let p = err_from_is_err_and c.from_residual.result c.from_residual.ensures.1 in
    rw (p.1, p.2) (if_answered_weaker _ (IsRefusedBy (IsOneSetRefusal c.args.set.now file)) (IsSummaryCheckPrinted asked c.args.proof.now files) (λ p v. inl v) c.in_err-one.ensures.read)

pub returns : goal.returns
returns c =
    let asked : SummaryCheck = summary_check_in c.args.arguments.now in
    let file : Option (List ℕ) = option_map (λ f. f.now) c.args.schema in
    let files : SetContents = set_contents c.args.set.now file in
    let one = c.in_ok-one.one in
    let names = texts_in c.as_slice.result.now in
    let same : names ≡ asked.dimensions = search rules in
    let subject = c.subject_of_set-subject.result in
    let of_files : (p : Printed) → IsSubjectChecked names MOST_PREDICATES asked.states c.args.proof.now subject p → IsSummaryCheckPrinted asked c.args.proof.now files p =
    λ p v. inr (of_one c.args.set.now file one (λ o. IsSubjectChecked asked.dimensions MOST_PREDICATES asked.states c.args.proof.now (subject_of_set o) p) c.in_ok-one.ensures.read
    (subst (λ (x : Subject). IsSubjectChecked asked.dimensions MOST_PREDICATES asked.states c.args.proof.now x p) c.subject_of_set-subject.ensures.value
    (subst (λ (ws : List (List ℕ)). IsSubjectChecked ws MOST_PREDICATES asked.states c.args.proof.now subject p) same v))) in
    or_answered_weaker c.print_subject_checked.result _ _ _ _ of_files of_files c.print_subject_checked.ensures
