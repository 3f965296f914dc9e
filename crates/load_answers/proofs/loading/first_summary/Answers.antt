use Rattle.std.proofs.Common.{◌≡◌, ℕ, List, inl, inr, refl, rules, subst, sym, true}
use Rattle.std.proofs.lemmas.Result.{err_from_is_err_and}
use Rattle.command_words.specs.Asked.{are_dimensions, texts_in}
use Rattle.run_inputs.specs.declared.printed.Printed.{Printed}
use Rattle.run_inputs.proofs.FileLaws.{if_answered_weaker, or_answered_weaker}
use Rattle.run_inputs.specs.OneSets.{IsSetRunRefusal}
use Rattle.run_inputs.specs.Refusals.{IsRefusedBy}
use Rattle.summary_answers.specs.declared.subject.Subject.{Subject}
use Rattle.summary_answers.specs.Printed.{IsSubjectPrinted, always_holds}
use Rattle.summary_answers.specs.Subjects.{subject_of_set}
use Rattle.summary_search.specs.declared.outcome.Limits.{Limits}
use Rattle.load_answers.specs.Loaded.{SummarisesFirst, default_limits, first_key}
use Rattle.load_answers.proofs.Lines.{one_same}
use Rattle.load_answers.proofs.loading.first_summary.Goals as goal

pub print_subject_summary-requires-clause-dimensions : goal.print_subject_summary-requires-clause-dimensions
print_subject_summary-requires-clause-dimensions c =
    let names : texts_in c.as_slice.result.now ≡ first_key = search rules in
    subst (λ (ws : List (List ℕ)). are_dimensions ws ≡ true) (sym names) refl

pub returns-in_err-one : goal.returns-in_err-one
returns-in_err-one c =
    let named = c.args.named.now in
    let says : (p : Printed) → IsRefusedBy (IsSetRunRefusal named c.args.set) p → SummarisesFirst named c.args.set p = λ p v. inl v in
    let p = err_from_is_err_and c.from_residual.result c.from_residual.ensures.1 in
    rw (p.1, p.2) (if_answered_weaker _ (IsRefusedBy (IsSetRunRefusal named c.args.set)) (SummarisesFirst named c.args.set) says c.in_err-one.ensures.run)

pub returns : goal.returns
returns c =
    let names : texts_in c.as_slice.result.now ≡ first_key = search rules in
    let one = c.in_ok-one.one in
    let subject = c.subject_of_set-subject.result in
    let said : (p : Printed) → IsSubjectPrinted always_holds (texts_in c.as_slice.result.now) c.default_limits.result subject p → SummarisesFirst c.args.named.now c.args.set p =
    λ p v. inr (one_same c.args.named.now c.args.set one (λ x. IsSubjectPrinted always_holds first_key default_limits (subject_of_set x) p) c.in_ok-one.ensures.run
    (subst (λ (x : Subject). IsSubjectPrinted always_holds first_key default_limits x p) c.subject_of_set-subject.ensures.value
    (subst (λ (limits : Limits). IsSubjectPrinted always_holds first_key limits subject p) c.default_limits.ensures.value
    (subst (λ (ws : List (List ℕ)). IsSubjectPrinted always_holds ws c.default_limits.result subject p) names v)))) in
    or_answered_weaker c.print_subject_summary.result _ _ _ _ said said c.print_subject_summary.ensures
