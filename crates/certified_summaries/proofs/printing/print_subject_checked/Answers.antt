use Rattle.std.proofs.Common.{inl, inr}
use Rattle.std.proofs.lemmas.Result.{err_from_is_err_and}
use Rattle.command_words.specs.Asked.{texts_in}
use Rattle.run_inputs.specs.declared.printed.Printed.{Printed}
use Rattle.run_inputs.proofs.FileLaws.{if_answered_weaker, or_answered_weaker}
use Rattle.certified_summaries.specs.Judged.{IsJudged, IsSubjectChecked}
use Rattle.certified_summaries.specs.Made.{IsNotMade}
use Rattle.certified_summaries.proofs.Making.{made-few}
use Rattle.certified_summaries.proofs.printing.print_subject_checked.Goals as goal

pub judge-requires-clause-numbers : goal.judge-requires-clause-numbers
judge-requires-clause-numbers c = made-few (texts_in c.args.names.now) c.args.predicates c.args.subject.now c.in_ok-made.made.query c.in_ok-made.made.strata c.ranges.predicates.fits c.in_ok-made.ensures

pub returns-in_err-made : goal.returns-in_err-made
returns-in_err-made c =
    let subject = c.args.subject.now in
    let names = texts_in c.args.names.now in
    let says : (p : Printed) → IsNotMade names c.args.predicates c.args.states subject p → IsSubjectChecked names c.args.predicates c.args.states c.args.proof.now subject p = λ p v. inl v in
    let p = err_from_is_err_and c.from_residual.result c.from_residual.ensures.1 in
    rw (p.1, p.2) (if_answered_weaker _ (IsNotMade names c.args.predicates c.args.states subject) (IsSubjectChecked names c.args.predicates c.args.states c.args.proof.now subject) says c.in_err-made.ensures)

pub returns : goal.returns
returns c =
    let subject = c.args.subject.now in
    let names = texts_in c.args.names.now in
    let made = c.in_ok-made.made in
    let says : (p : Printed) → IsJudged subject made.strata.dimensions c.args.proof.now p → IsSubjectChecked names c.args.predicates c.args.states c.args.proof.now subject p =
    λ p v. inr (record { query = made.query; strata = made.strata; is = c.in_ok-made.ensures; holds = v }) in
    or_answered_weaker c.judge.result (IsJudged subject made.strata.dimensions c.args.proof.now) (IsSubjectChecked names c.args.predicates c.args.states c.args.proof.now subject) _ _ says says c.judge.ensures
