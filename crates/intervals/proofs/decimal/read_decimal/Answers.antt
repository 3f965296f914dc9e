use Rattle.std.proofs.Common.{◌≡◌, ◌∙◌, rules, Some, None}
use Rattle.std.proofs.lemmas.Option.{none-some}
use Rattle.intervals.specs.DecimalTexts.{decimal_of}
use Rattle.intervals.proofs.DecimalForms.{decimal_forth, decimal_back}
use Rattle.intervals.proofs.decimal.read_decimal.Goals as goal

pub returns-in-Some-clause-stands_for : goal.returns-in-Some-clause-stands_for
returns-in-Some-clause-stands_for c =
    let e : decimal_of c.args.text.now ≡ Some c.in-Some.number = search rules in decimal_back _ _ e

pub returns-in-None-clause-refused : goal.returns-in-None-clause-refused
returns-in-None-clause-refused c =
    let e : None ≡ decimal_of c.args.text.now = search rules in λ units form. none-some units (e ∙ decimal_forth _ _ form)
