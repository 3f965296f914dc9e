use Rattle.std.proofs.Common.{sym, ◌∙◌}
use Rattle.proof_text.proofs.Answering.{answer-large}
use Rattle.proof_text.proofs.answers.answer_in.Goals as goal

pub returns-in_default-2 : goal.returns-in_default-2
returns-in_default-2 c =
    answer-large c.args.part.now c.in-Some.digits.now c.in-Some.sign.now c.in-Some-sign_of.holds c.in_ok-test.field-0 c.in-Some.ensures.cases.0 (sym c.sign_of.ensures ∙ c.in-Some-sign_of.is) c.in_ok-test.ensures c.in_default-2.is
