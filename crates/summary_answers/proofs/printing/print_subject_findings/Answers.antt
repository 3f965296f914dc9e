use Rattle.std.proofs.Common.{inl, inr, rules}
use Rattle.std.proofs.lemmas.Result.{err_from_is_err_and}
use Rattle.command_words.specs.Asked.{texts_in}
use Rattle.run_inputs.proofs.FileLaws.{if_answered_weaker}
use Rattle.summary_answers.specs.Found.{IsNotFound}
use Rattle.summary_answers.specs.Printed.{IsSubjectPrinted, status_by}
use Rattle.summary_answers.proofs.Summarising.{summary-findings}
use Rattle.summary_answers.proofs.printing.print_subject_findings.Goals as goal

pub found_text-requires : goal.found_text-requires
found_text-requires c =
    let subject = c.args.subject.now in
    let found = c.in_ok-found.found in
    summary-findings subject.schema subject.region found.strata.dimensions found.summary c.in_ok-found.ensures.summary

pub returns-in_err-found : goal.returns-in_err-found
returns-in_err-found c =
    let subject = c.args.subject.now in
    let names = texts_in c.args.names.now in
    let p = err_from_is_err_and c.from_residual.result c.from_residual.ensures.1 in
    rw (p.1, p.2) (if_answered_weaker _ (IsNotFound names c.args.limits subject) (IsSubjectPrinted status_by names c.args.limits subject) (λ p v. inl v) c.in_err-found.ensures)

pub returns : goal.returns
returns c = inr (record { found = c.in_ok-found.found; is = c.in_ok-found.ensures; prints = search rules })
