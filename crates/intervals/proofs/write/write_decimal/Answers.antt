use Rattle.std.proofs.Common.{◌≡◌, rules, string_bytes}
use Rattle.intervals.specs.DecimalTexts.{written_decimal}
use Rattle.intervals.proofs.DecimalForms.{decimal_back}
use Rattle.intervals.proofs.RoundTrip.{read_again}
use Rattle.intervals.proofs.write.write_decimal.Goals as goal

pub returns-clause-read_again : goal.returns-clause-read_again
returns-clause-read_again c =
    let e : string_bytes c.push_fraction.new.text ≡ written_decimal c.args.value = search rules in
    rw e (decimal_back _ _ (read_again c.args.value c.units.ensures.bounded))
