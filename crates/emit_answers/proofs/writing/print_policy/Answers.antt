use Rattle.std.proofs.Common.{◌≡◌, Ok, Err, refl, rules, subst}
use Rattle.std.specs.Prelude.{IfOk, Result, String, string_bytes}
use Rattle.std.specs.declared.alloc.Global.{Global}
use Rattle.findings.specs.Summaries.{findings_of}
use Rattle.policy_emit.specs.declared.fault.EmitFault.{EmitFault}
use Rattle.policy_emit.specs.declared.fault.EmitFault.TheVariants.{TooManyStatements}
use Rattle.policy_emit.specs.Emitted.{IsEmitted}
use Rattle.policy_emit.specs.Laws.{IsReadAsEmitted}
use Rattle.run_inputs.specs.declared.status.Status.TheVariants.{Refused}
use Rattle.run_inputs.specs.Printing.{PrintsText}
use Rattle.run_inputs.proofs.FileLaws.{if_answered_weaker}
use Rattle.emit_answers.specs.EmitPrinted.{IsPolicyPrinted, many_findings_line}
use Rattle.emit_answers.proofs.Emitting.{none-printed, policy-printed}
use Rattle.emit_answers.proofs.writing.print_policy.Goals as goal

abbrev Written : Type 0
Written = Result (String Global) EmitFault

pub returns-in-Ok : goal.returns-in-Ok
returns-in-Ok c =
    let schema = c.args.schema.now in
    let found = c.args.found.now in
    let fs = findings_of found.summary in
    let known : Written = Ok c.in-Ok.text in
    let is : c.emit.result ≡ known = search rules in
    let emitted = subst (λ (r : Written). IsEmitted schema found.strata.dimensions fs r) is c.emit.ensures.emitted in
    let read = subst (λ (r : Written). IfOk r (λ text. IsReadAsEmitted schema found.strata fs (string_bytes text))) is c.emit.ensures.read in
    policy-printed schema found c.in-Ok.text emitted read _ (refl, refl)

pub returns-in-Err-TooManyStatements : goal.returns-in-Err-TooManyStatements
returns-in-Err-TooManyStatements c =
    let schema = c.args.schema.now in
    let found = c.args.found.now in
    let known : Written = Err TooManyStatements in
    let is : c.emit.result ≡ known = search rules in
    let emitted = subst (λ (r : Written). IsEmitted schema found.strata.dimensions (findings_of found.summary) r) is c.emit.ensures.emitted in
    if_answered_weaker c.ended.result (PrintsText many_findings_line Refused) (IsPolicyPrinted schema found) (none-printed schema found emitted) (c.ended.ensures many_findings_line c.many_findings_line.ensures)
