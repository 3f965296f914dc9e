use Rattle.std.proofs.Common.{inl, inr, subst}
use Rattle.std.proofs.lemmas.Result.{err_from_is_err_and}
use Rattle.command_words.specs.Asked.{texts_in}
use Rattle.run_inputs.specs.declared.printed.Printed.{Printed}
use Rattle.run_inputs.proofs.FileLaws.{if_answered_weaker, or_answered_weaker}
use Rattle.summary_answers.specs.declared.subject.Subject.{Subject}
use Rattle.summary_answers.specs.Found.{IsNotFound}
use Rattle.summary_answers.proofs.Laws.{found_have_findings}
use Rattle.emit_answers.specs.EmitPrinted.{IsPolicyPrinted, IsSetEmitted}
use Rattle.emit_answers.proofs.Emitting.{emits-found}
use Rattle.emit_answers.proofs.printing.print_set_policy.Goals as goal

pub print_policy-requires : goal.print_policy-requires
print_policy-requires c = found_have_findings (texts_in c.args.names.now) c.args.limits c.args.subject.now c.in_ok-found.found c.in_ok-found.ensures

pub returns-in_err-found : goal.returns-in_err-found
returns-in_err-found c =
    let subject = c.args.subject.now in
    let names = texts_in c.args.names.now in
    let p = err_from_is_err_and c.from_residual.result c.from_residual.ensures.1 in
    rw (p.1, p.2) (λ named one is of. if_answered_weaker _ (IsNotFound names c.args.limits subject) (IsSetEmitted names c.args.limits named one)
    (λ p v. inl (subst (λ (x : Subject). IsNotFound names c.args.limits x p) is v)) c.in_err-found.ensures)

pub returns : goal.returns
returns c = λ named one is of.
    let subject = c.args.subject.now in
    let names = texts_in c.args.names.now in
    let found = c.in_ok-found.found in
    let says : (p : Printed) → IsPolicyPrinted subject.schema found p → IsSetEmitted names c.args.limits named one p =
    λ p v. inr (emits-found c.summaries_cover.ensures c.emitted_sets_allow_findings.ensures c.emitted_keys_are_known.ensures names c.args.limits named subject one found is c.in_ok-found.ensures of p v) in
    or_answered_weaker c.print_policy.result (IsPolicyPrinted subject.schema found) (IsSetEmitted names c.args.limits named one) (IsPolicyPrinted subject.schema found) (IsSetEmitted names c.args.limits named one) says says c.print_policy.ensures
