use Rattle.std.proofs.Common.{refl}
use Rattle.run_inputs.specs.declared.role.Role.TheVariants as role
use Rattle.run_inputs.specs.OneSets.{IsSetRunRefusal}
use Rattle.run_inputs.specs.declared.refusal.Refusal.TheVariants as refusal
use Rattle.run_inputs.proofs.Laws.{refused_by}
use Rattle.run_inputs.proofs.one_set.run_one.Goals as goal

pub returns-in-Err-Refused-clause-run : goal.returns-in-Err-Refused-clause-run
returns-in-Err-Refused-clause-run c =
    refused_by c.refused.result (refusal.BadCondition role.Set c.in-Err-Refused.fault) (IsSetRunRefusal c.args.named.now c.args.set) (refl, rw c.in-Err-Refused.fault-is (rw c.in-Err-Refused.field-0-is at c.in-Err-Refused.ensures.value)) c.refused.ensures
