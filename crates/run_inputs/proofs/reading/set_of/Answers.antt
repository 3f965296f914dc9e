use Rattle.std.proofs.Common.{refl}
use Rattle.run_inputs.specs.Standing.{IsSetFileRefusal}
use Rattle.run_inputs.specs.declared.refusal.Refusal.TheVariants as refusal
use Rattle.run_inputs.proofs.Laws.{refused_by}
use Rattle.run_inputs.proofs.reading.set_of.Goals as goal

pub returns-in-Err-Refused-clause-value : goal.returns-in-Err-Refused-clause-value
returns-in-Err-Refused-clause-value c =
    refused_by c.refused.result (refusal.BadSet c.args.role c.in-Err-Refused.fault) (IsSetFileRefusal c.args.role c.args.bytes.now) (refl, rw c.in-Err-Refused.fault-is (rw c.in-Err-Refused.field-0-is at c.in-Err-Refused.ensures.value)) c.refused.ensures
