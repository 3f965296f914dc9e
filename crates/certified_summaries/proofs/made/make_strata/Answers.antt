use Rattle.std.proofs.Common.{Err, List, Ok, inl, inr, subst, sym}
use Rattle.std.proofs.lemmas.Result.{err_from_is_err_and}
use Rattle.command_words.specs.Asked.{texts_in}
use Rattle.policy_model.specs.declared.test.Slot.{Slot}
use Rattle.strata.specs.Causes.{AreStrataOf}
use Rattle.run_inputs.specs.declared.printed.Printed.{Printed}
use Rattle.run_inputs.proofs.FileLaws.{if_answered_weaker}
use Rattle.run_inputs.specs.Refusals.{IsRefusedBy}
use Rattle.summary_search.specs.Outcomes.{AreAskable}
use Rattle.summary_answers.specs.Dimensions.{IsUnknownPrinted}
use Rattle.run_inputs.specs.PastLimits.{IsPlanPastLimit}
use Rattle.summary_answers.specs.Subjects.{subject_plan}
use Rattle.summary_answers.proofs.Laws.{names_are_askable}
use Rattle.certified_summaries.specs.Made.{IsNotMade, PrintsUnmade}
use Rattle.certified_summaries.proofs.Making.{has-dimension, made-of}
use Rattle.certified_summaries.proofs.made.make_strata.Goals as goal

pub find_strata-requires-clause-askable : goal.find_strata-requires-clause-askable
find_strata-requires-clause-askable c =
    let schema = c.args.subject.now.schema in
    let slots = c.in_ok-slots.ensures.slots in
    subst (λ (ss : List Slot). AreAskable schema ss) (sym slots.1) (names_are_askable (texts_in c.args.names.now) c.requires.dimensions schema c.requires.fits.sound slots.0 c.in_ok-slots.ensures.texts)

pub find_strata-requires-clause-region : goal.find_strata-requires-clause-region
find_strata-requires-clause-region c = (c.args.subject.now.region, record { fits = c.requires.fits.fits; is = c.in_ok-query.ensures })

pub unmade-requires : goal.unmade-requires
unmade-requires c =
    let schema = c.args.subject.now.schema in
    has-dimension (texts_in c.args.names.now) c.args.predicates schema c.args.states c.in_ok-query.query c.in-Err.fault
    (subst (λ (ss : List Slot). AreStrataOf c.args.predicates schema c.args.states c.in_ok-query.query ss (Err c.in-Err.fault)) c.in_ok-slots.ensures.slots.1 c.in-Err.ensures)

pub returns-in-Ok : goal.returns-in-Ok
returns-in-Ok c =
    let subject = c.args.subject.now in
    let names = texts_in c.args.names.now in
    let slots = c.in_ok-slots.ensures.slots in
    let are = subst (λ (ss : List Slot). AreStrataOf c.args.predicates subject.schema c.args.states c.in_ok-query.query ss (Ok c.in-Ok.strata)) slots.1 c.in-Ok.ensures in
    made-of c.strata_are_made.ensures names c.args.predicates subject c.args.states c.in_ok-query.query c.in-Ok.strata c.ranges.predicates.fits slots.0 c.requires.fits
    (names_are_askable names c.requires.dimensions subject.schema c.requires.fits.sound slots.0 c.in_ok-slots.ensures.texts) c.in_ok-query.ensures are

pub returns : goal.returns
returns c =
    let subject = c.args.subject.now in
    let names = texts_in c.args.names.now in
    let slots = c.in_ok-slots.ensures.slots in
    let cause = subst (λ (ss : List Slot). AreStrataOf c.args.predicates subject.schema c.args.states c.in_ok-query.query ss (Err c.in-Err.fault)) slots.1 c.in-Err.ensures in
    let says : (p : Printed) → PrintsUnmade names c.args.states c.in-Err.fault p → IsNotMade names c.args.predicates c.args.states subject p =
    λ p v. inr (slots.0, inr (record { query = c.in_ok-query.query; is = c.in_ok-query.ensures; fault = c.in-Err.fault; cause = cause; prints = v })) in
    if_answered_weaker c.unmade.result (PrintsUnmade names c.args.states c.in-Err.fault) (IsNotMade names c.args.predicates c.args.states subject) says c.unmade.ensures

pub returns-in_err-slots : goal.returns-in_err-slots
returns-in_err-slots c =
    let subject = c.args.subject.now in
    let names = texts_in c.args.names.now in
    let says : (p : Printed) → IsUnknownPrinted subject.schema names p → IsNotMade names c.args.predicates c.args.states subject p = λ p v. inl v in
    let p = err_from_is_err_and c.from_residual.result c.from_residual.ensures.1 in
    rw (p.1, p.2) (if_answered_weaker _ (IsUnknownPrinted subject.schema names) (IsNotMade names c.args.predicates c.args.states subject) says c.in_err-slots.ensures.slots)

pub returns-in_err-query : goal.returns-in_err-query
returns-in_err-query c =
    let subject = c.args.subject.now in
    let names = texts_in c.args.names.now in
    let says : (p : Printed) → IsRefusedBy (IsPlanPastLimit (subject_plan subject)) p → IsNotMade names c.args.predicates c.args.states subject p = λ p v. inr (c.in_ok-slots.ensures.slots.0, inl v) in
    let p = err_from_is_err_and c.from_residual-in_err-query.result c.from_residual-in_err-query.ensures.1 in
    rw (p.1, p.2) (if_answered_weaker _ (IsRefusedBy (IsPlanPastLimit (subject_plan subject))) (IsNotMade names c.args.predicates c.args.states subject) says c.in_err-query.ensures)
