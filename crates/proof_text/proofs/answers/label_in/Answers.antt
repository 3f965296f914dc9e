use Rattle.std.specs.Option.{option_copied}
use Rattle.proof_text.specs.Steps.{parts_left}
use Rattle.proof_text.proofs.Answering.{label-large, pair-first, pair-second}
use Rattle.proof_text.proofs.Reading.{left-is}
use Rattle.proof_text.proofs.answers.label_in.Goals as goal

pub returns-in_default-number : goal.returns-in_default-number
returns-in_default-number c =
    label-large (parts_left 32 (option_copied c.args.behind)) (parts_left 32 (option_copied c.cut.result.1)) c.cut.result.0.now c.in_ok-number.number c.in_ok-answers.answers
    (left-is 32 c.args.behind c.cut.result.1 c.in-Some.text c.cut.result.0 c.in-Some.is c.cut.ensures.parts) c.in_ok-number.ensures c.in_ok-answers.ensures (pair-first _ _ c.in_default-number.is)

pub returns-in_default-answers : goal.returns-in_default-answers
returns-in_default-answers c =
    label-large (parts_left 32 (option_copied c.args.behind)) (parts_left 32 (option_copied c.cut.result.1)) c.cut.result.0.now c.in_ok-number.number c.in_ok-answers.answers
    (left-is 32 c.args.behind c.cut.result.1 c.in-Some.text c.cut.result.0 c.in-Some.is c.cut.ensures.parts) c.in_ok-number.ensures c.in_ok-answers.ensures (pair-second _ _ c.in_default-answers.is)
