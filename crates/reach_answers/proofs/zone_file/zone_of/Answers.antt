use Rattle.std.proofs.Common.{◌≡◌, Err}
use Rattle.run_inputs.specs.declared.status.Status.TheVariants.{Refused}
use Rattle.run_inputs.specs.Printing.{PrintsText}
use Rattle.run_inputs.proofs.FileLaws.{if_answered_weaker}
use Rattle.trust_zones.specs.ZoneFiles.{zone_from}
use Rattle.reach_answers.specs.ZoneRefusals.{IsZoneRefused, zone_line}
use Rattle.reach_answers.proofs.zone_file.zone_of.Goals as goal

pub returns-in-Err-Refused-clause-read : goal.returns-in-Err-Refused-clause-read
returns-in-Err-Refused-clause-read c =
    let first : zone_from c.args.schema.now c.args.bytes.now ≡ Err c.in-Err-Refused.fault = rw c.in-Err-Refused.fault-is (rw c.in-Err-Refused.field-0-is at c.in-Err-Refused.ensures.value) in
    if_answered_weaker c.zone_refused.result (PrintsText (zone_line c.in-Err-Refused.fault) Refused) (IsZoneRefused c.args.schema.now c.args.bytes.now) (λ p told. record { fault = c.in-Err-Refused.fault; first = first; prints = told }) c.zone_refused.ensures
