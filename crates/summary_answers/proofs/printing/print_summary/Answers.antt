use Rattle.std.proofs.Common.{◌≡◌, ℕ, List, Option, inl, inr, option_map, rules, subst}
use Rattle.std.proofs.lemmas.Result.{err_from_is_err_and}
use Rattle.command_words.specs.Asked.{Summarising, summarising_in, texts_in}
use Rattle.summary_search.specs.declared.outcome.Limits.{Limits}
use Rattle.run_inputs.specs.declared.printed.Printed.{Printed}
use Rattle.run_inputs.proofs.FileLaws.{if_answered_weaker, or_answered_weaker}
use Rattle.run_inputs.proofs.Laws.{of_one}
use Rattle.run_inputs.specs.OneSets.{IsOneSetRefusal, SetContents, set_contents}
use Rattle.run_inputs.specs.Refusals.{IsRefusedBy}
use Rattle.summary_answers.specs.declared.subject.Subject.{Subject}
use Rattle.summary_answers.specs.Printed.{IsSubjectPrinted, IsSummaryPrinted, always_holds, limits_in}
use Rattle.summary_answers.specs.Subjects.{subject_of_set}
use Rattle.summary_answers.proofs.printing.print_summary.Goals as goal

pub returns-in_err-one : goal.returns-in_err-one
returns-in_err-one c =
    let s : Summarising = summarising_in c.args.arguments.now in
    let file : Option (List ℕ) = option_map (λ f. f.now) c.args.schema in
    let files : SetContents = set_contents c.args.set.now file in
    let p = err_from_is_err_and c.from_residual.result c.from_residual.ensures.1 in
    rw (p.1, p.2) (if_answered_weaker _ (IsRefusedBy (IsOneSetRefusal c.args.set.now file)) (IsSummaryPrinted s files) (λ p v. inl v) c.in_err-one.ensures.read)

pub returns : goal.returns
returns c =
    let s : Summarising = summarising_in c.args.arguments.now in
    let file : Option (List ℕ) = option_map (λ f. f.now) c.args.schema in
    let files : SetContents = set_contents c.args.set.now file in
    let one = c.in_ok-one.one in
    let names = texts_in c.as_slice.result.now in
    let same : names ≡ s.dimensions = search rules in
    let subject = c.subject_of_set-subject.result in
    let of_files : (p : Printed) → IsSubjectPrinted always_holds names c.limits_of.result subject p → IsSummaryPrinted s files p =
    λ p v. inr (of_one c.args.set.now file one (λ o. IsSubjectPrinted always_holds s.dimensions (limits_in s) (subject_of_set o) p) c.in_ok-one.ensures.read
    (subst (λ (x : Subject). IsSubjectPrinted always_holds s.dimensions (limits_in s) x p) c.subject_of_set-subject.ensures.value
    (subst (λ (ws : List (List ℕ)). IsSubjectPrinted always_holds ws (limits_in s) subject p) same
    (subst (λ (limits : Limits). IsSubjectPrinted always_holds names limits subject p) c.limits_of.ensures.value v)))) in
    or_answered_weaker c.print_subject_summary.result _ _ _ _ of_files of_files c.print_subject_summary.ensures
