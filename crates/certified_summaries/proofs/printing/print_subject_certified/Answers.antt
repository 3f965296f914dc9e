use Rattle.std.proofs.Common.{inl, inr}
use Rattle.std.proofs.lemmas.Result.{err_from_is_err_and}
use Rattle.command_words.specs.Asked.{texts_in}
use Rattle.run_inputs.specs.declared.printed.Printed.{Printed}
use Rattle.run_inputs.specs.declared.status.Status.TheVariants.{Holds}
use Rattle.run_inputs.proofs.FileLaws.{if_answered_weaker, or_answered_weaker}
use Rattle.summary_answers.specs.Found.{IsNotFound}
use Rattle.summary_answers.specs.Printed.{always_holds}
use Rattle.summary_answers.proofs.Laws.{found_have_findings}
use Rattle.certified_summaries.specs.Certified.{IsCoverSaid, IsSubjectCertified}
use Rattle.certified_summaries.proofs.printing.print_subject_certified.Goals as goal

pub certify-requires-clause-findings : goal.certify-requires-clause-findings
certify-requires-clause-findings c = found_have_findings (texts_in c.args.names.now) c.args.limits c.args.subject.now c.in_ok-found.found c.in_ok-found.ensures

pub returns-in_err-found : goal.returns-in_err-found
returns-in_err-found c =
    let subject = c.args.subject.now in
    let names = texts_in c.args.names.now in
    let says : (p : Printed) → IsNotFound names c.args.limits subject p → IsSubjectCertified always_holds names c.args.limits subject p = λ p v. inl v in
    let p = err_from_is_err_and c.from_residual.result c.from_residual.ensures.1 in
    rw (p.1, p.2) (if_answered_weaker _ (IsNotFound names c.args.limits subject) (IsSubjectCertified always_holds names c.args.limits subject) says c.in_err-found.ensures)

pub returns : goal.returns
returns c =
    let subject = c.args.subject.now in
    let names = texts_in c.args.names.now in
    let found = c.in_ok-found.found in
    let says : (p : Printed) → IsCoverSaid Holds c.args.limits subject found p → IsSubjectCertified always_holds names c.args.limits subject p = λ p v. inr (record { found = found; is = c.in_ok-found.ensures; printed = v }) in
    or_answered_weaker c.certify.result (IsCoverSaid Holds c.args.limits subject found) (IsSubjectCertified always_holds names c.args.limits subject) _ _ says says c.certify.ensures
