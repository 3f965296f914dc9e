use Rattle.std.proofs.Common.{arith}
use Rattle.run_inputs.specs.declared.status.Status.TheVariants.{BadProof}
use Rattle.run_inputs.specs.Printing.{PrintsText}
use Rattle.run_inputs.proofs.FileLaws.{if_answered_weaker}
use Rattle.run_inputs.specs.CertificateLines.{proof_fault_text}
use Rattle.certified_summaries.specs.Judged.{IsBadCertificatePrinted}
use Rattle.certified_summaries.proofs.Judging.{certificate-bad}
use Rattle.certified_summaries.proofs.check.certificate_of.Goals as goal

pub returns-in-Err-Refused : goal.returns-in-Err-Refused
returns-in-Err-Refused c =
    let schema = c.args.schema.now in
    let fault = c.in-Err-Refused.fault in
    let read = (rw c.in-Err-Refused.field-0-is at c.in-Err-Refused.ensures.read) in
    let is = certificate-bad schema c.args.query.now c.args.pairs.now c.args.bytes.now _ _ fault c.requires.head (omega (arith, c.len.ensures)) (omega (arith, c.len-2.ensures)) read in
    if_answered_weaker c.ended.result (PrintsText (proof_fault_text fault) BadProof) (IsBadCertificatePrinted schema c.args.query.now c.args.pairs.now c.args.bytes.now)
    (λ p v. record { fault = fault; is = is; prints = v }) (c.ended.ensures _ c.proof_fault_text.ensures)
