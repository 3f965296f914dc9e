use Rattle.std.proofs.Common.{Some}
use Rattle.run_inputs.specs.Standing.{IsSchemaFileRefusal}
use Rattle.run_inputs.specs.declared.refusal.Refusal.TheVariants as refusal
use Rattle.run_inputs.proofs.Laws.{refused_by}
use Rattle.run_inputs.proofs.reading.schema_of.Goals as goal

pub returns-in-Err-Refused-clause-value : goal.returns-in-Err-Refused-clause-value
returns-in-Err-Refused-clause-value c =
    refused_by c.refused.result (refusal.BadSchema c.in-Err-Refused.fault) (IsSchemaFileRefusal (Some c.args.bytes.now)) (rw c.in-Err-Refused.fault-is (rw c.in-Err-Refused.field-0-is at c.in-Err-Refused.ensures.value)) c.refused.ensures
