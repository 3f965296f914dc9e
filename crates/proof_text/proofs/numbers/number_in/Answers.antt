use Rattle.std.proofs.Common.{sym, ◌∙◌}
use Rattle.proof_text.proofs.Bytes.{number-read}
use Rattle.proof_text.proofs.numbers.number_in.Goals as goal

pub returns : goal.returns
returns c = number-read c.args.part.now c.value_of.result (sym c.is_number.ensures ∙ c.if-not-is_number.false) c.value_of.ensures
