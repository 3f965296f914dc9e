use Rattle.std.specs.Option.{option_copied}
use Rattle.proof_text.specs.LineForms.{answer_said}
use Rattle.proof_text.specs.Steps.{is_answer_small, parts_left}
use Rattle.proof_text.proofs.Reading.{loop-large, loop-small}
use Rattle.proof_text.proofs.answers.answers_in.Goals as goal

pub loop-rest-preserved-in_ok-push-in-Some-2 : goal.loop-rest-preserved-in_ok-push-in-Some-2
loop-rest-preserved-in_ok-push-in-Some-2 c =
    loop-small answer_said is_answer_small 32 (parts_left 32 (option_copied c.args.behind)) c.loop-rest.large c.loop-rest.answers _ c.loop-rest.rest c.cut.result.1 c.in-Some.text c.cut.result.0 c.in_ok-answer.field-0 c.in-Some-2.answer
    c.loop-rest.invariant c.in-Some.is c.cut.ensures.parts c.in_ok-answer.ensures c.in-Some-2.is c.in_ok-push-in-Some-2.ensures.ok

pub loop-rest-preserved : goal.loop-rest-preserved
loop-rest-preserved c =
    loop-large answer_said is_answer_small 32 (parts_left 32 (option_copied c.args.behind)) c.loop-rest.large c.loop-rest.answers c.loop-rest.rest c.cut.result.1 c.in-Some.text c.cut.result.0 c.in_ok-answer.field-0
    c.loop-rest.invariant c.in-Some.is c.cut.ensures.parts c.in_ok-answer.ensures c.in-None.is
