use Rattle.std.proofs.Common.{sym, ◌∙◌}
use Rattle.proof_text.proofs.Digits.{decimal-is, decimal-other}
use Rattle.proof_text.proofs.numbers.decimal_in.Goals as goal

pub returns-then-not-is_number : goal.returns-then-not-is_number
returns-then-not-is_number c = decimal-other c.args.text.now (sym c.is_number.ensures ∙ c.if-not-is_number.true)

pub returns : goal.returns
returns c = decimal-is c.args.text.now c.value_of.result (sym c.is_number.ensures ∙ c.if-not-is_number.false) c.value_of.ensures
