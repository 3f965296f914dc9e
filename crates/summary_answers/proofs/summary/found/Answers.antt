use Rattle.std.proofs.Common.{List, arith, inl, inr, subst, sym}
use Rattle.std.proofs.lemmas.Result.{err_from_is_err_and}
use Rattle.command_words.specs.Asked.{texts_in}
use Rattle.policy_model.specs.declared.test.Slot.{Slot}
use Rattle.run_inputs.specs.declared.printed.Printed.{Printed}
use Rattle.run_inputs.proofs.FileLaws.{if_answered_weaker, or_answered_weaker}
use Rattle.run_inputs.specs.PastLimits.{IsPlanPastLimit}
use Rattle.run_inputs.specs.Refusals.{IsRefusedBy}
use Rattle.summary_search.specs.Outcomes.{AreAskable}
use Rattle.summary_answers.specs.declared.answer.Found.{Found}
use Rattle.summary_answers.specs.Dimensions.{IsUnknownPrinted, dimension_slots}
use Rattle.summary_answers.specs.Found.{IsFoundIn, IsFoundOf, IsNotFound, IsSubjectOutcome, PrintsUnfound}
use Rattle.summary_answers.specs.Subjects.{subject_plan}
use Rattle.summary_answers.proofs.Naming.{names-askable}
use Rattle.summary_answers.proofs.Summarising.{found-of, texts-of}
use Rattle.summary_answers.proofs.summary.found.Goals as goal

pub outcome_of-requires-clause-askable : goal.outcome_of-requires-clause-askable
outcome_of-requires-clause-askable c =
    let schema = c.args.subject.now.schema in
    let slots = c.in_ok-slots.ensures.slots in
    subst (λ (ss : List Slot). AreAskable schema ss) (sym slots.1) (names-askable (texts_in c.args.names.now) c.requires.dimensions schema c.requires.fits.sound slots.0 c.in_ok-slots.ensures.texts)

pub found_in-requires : goal.found_in-requires
found_in-requires c =
    let names = texts_in c.args.names.now in
    let query = c.in_ok-query.query in
    let outcome = c.in_ok-query.outcome in
    let came : IsSubjectOutcome (dimension_slots names) c.args.limits c.args.subject.now query outcome =
    subst (λ (ss : List Slot). IsSubjectOutcome ss c.args.limits c.args.subject.now query outcome) c.in_ok-slots.ensures.slots.1 c.in_ok-query.ensures in
    texts-of names c.args.limits c.args.subject.now query outcome came

pub returns : goal.returns
returns c =
    let names = texts_in c.args.names.now in
    let subject = c.args.subject.now in
    let query = c.in_ok-query.query in
    let outcome = c.in_ok-query.outcome in
    let came : IsSubjectOutcome (dimension_slots names) c.args.limits subject query outcome =
    subst (λ (ss : List Slot). IsSubjectOutcome ss c.args.limits subject query outcome) c.in_ok-slots.ensures.slots.1 c.in_ok-query.ensures in
    let known = c.in_ok-slots.ensures.slots.0 in
    let askable = names-askable names c.requires.dimensions subject.schema c.requires.fits.sound known c.in_ok-slots.ensures.texts in
    let finds : (f : Found) → IsFoundIn query outcome f → IsFoundOf names c.args.limits subject f = λ f v.
    found-of c.written_requests_are_read_again.ensures names c.args.limits subject query outcome came (omega arith) known c.requires.fits (c.sound_schemas_have_requests.ensures subject.schema c.requires.fits.sound) askable f v in
    let tells : (p : Printed) → PrintsUnfound names c.args.limits outcome p → IsNotFound names c.args.limits subject p =
    λ p v. inr (known, inr (record { query = query; came = outcome; is = came; prints = v })) in
    or_answered_weaker c.found_in.result (IsFoundIn query outcome) (IsFoundOf names c.args.limits subject) (PrintsUnfound names c.args.limits outcome) (IsNotFound names c.args.limits subject) finds tells c.found_in.ensures

pub returns-in_err-slots : goal.returns-in_err-slots
returns-in_err-slots c =
    let names = texts_in c.args.names.now in
    let subject = c.args.subject.now in
    let says : (p : Printed) → IsUnknownPrinted subject.schema names p → IsNotFound names c.args.limits subject p = λ p v. inl v in
    let p = err_from_is_err_and c.from_residual.result c.from_residual.ensures.1 in
    rw (p.1, p.2) (if_answered_weaker _ (IsUnknownPrinted subject.schema names) (IsNotFound names c.args.limits subject) says c.in_err-slots.ensures.slots)

pub returns-in_err-query : goal.returns-in_err-query
returns-in_err-query c =
    let names = texts_in c.args.names.now in
    let subject = c.args.subject.now in
    let past : (p : Printed) → IsRefusedBy (IsPlanPastLimit (subject_plan subject)) p → IsNotFound names c.args.limits subject p =
    λ p v. inr (c.in_ok-slots.ensures.slots.0, inl v) in
    let p = err_from_is_err_and c.from_residual-in_err-query.result c.from_residual-in_err-query.ensures.1 in
    rw (p.1, p.2) (if_answered_weaker _ (IsRefusedBy (IsPlanPastLimit (subject_plan subject))) (IsNotFound names c.args.limits subject) past c.in_err-query.ensures)
