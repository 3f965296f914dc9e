use Rattle.run_inputs.specs.Pairs.{IsPairRunRefusal}
use Rattle.run_inputs.specs.declared.refusal.Refusal.TheVariants as refusal
use Rattle.run_inputs.proofs.Laws.{refused_by}
use Rattle.run_inputs.proofs.pair.run_pair.Goals as goal

pub returns-in-Err-Refused-clause-run : goal.returns-in-Err-Refused-clause-run
returns-in-Err-Refused-clause-run c =
    refused_by c.refused.result (refusal.BadCondition c.infer_role.result c.in-Err-Refused.fault) (IsPairRunRefusal c.args.named.now c.args.first c.args.second) (c.infer_role.ensures, rw c.in-Err-Refused.fault-is (rw c.in-Err-Refused.field-0-is at c.in-Err-Refused.ensures.value)) c.refused.ensures
