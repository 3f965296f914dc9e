use Rattle.std.proofs.Common.{subst}
use Rattle.policy_model.specs.declared.schema.Schema.{Schema}
use Rattle.run_inputs.specs.declared.status.Status.TheVariants.{BadProof}
use Rattle.run_inputs.specs.Printing.{PrintsText}
use Rattle.run_inputs.proofs.FileLaws.{if_answered_weaker}
use Rattle.certified_summaries.specs.CoverTexts.{head_fault_text}
use Rattle.certified_summaries.specs.Heads.{IsHeadFault}
use Rattle.certified_summaries.specs.Judged.{IsBadHeadPrinted}
use Rattle.certified_summaries.proofs.check.head_of.Goals as goal

pub returns-in-Err-Refused : goal.returns-in-Err-Refused
returns-in-Err-Refused c =
    let fault = c.in-Err-Refused.fault in
    let read = (rw c.in-Err-Refused.field-0-is at c.in-Err-Refused.ensures) in
    let is = subst (λ (s : Schema). IsHeadFault s c.args.strata.now.dimensions c.args.bytes.now fault) c.in_ok-reader.ensures read in
    if_answered_weaker c.ended.result (PrintsText (head_fault_text fault) BadProof) (IsBadHeadPrinted c.args.subject.now c.args.strata.now.dimensions c.args.bytes.now)
    (λ p v. record { fault = fault; is = is; prints = v }) (c.ended.ensures _ c.head_fault_text.ensures)
