use Rattle.std.specs.Option.{option_copied}
use Rattle.proof_text.specs.LineForms.{number_said}
use Rattle.proof_text.specs.Steps.{is_small, parts_left}
use Rattle.proof_text.proofs.Reading.{loop-large, loop-small}
use Rattle.proof_text.proofs.numbers.numbers_in.Goals as goal

pub loop-rest-preserved-in_ok-push-in-Some-2 : goal.loop-rest-preserved-in_ok-push-in-Some-2
loop-rest-preserved-in_ok-push-in-Some-2 c =
    loop-small number_said is_small c.args.between (parts_left c.args.between (option_copied c.args.behind)) c.loop-rest.large c.loop-rest.numbers _ c.loop-rest.rest c.cut.result.1 c.in-Some.text c.cut.result.0 c.in_ok-number.field-0 c.in-Some-2.number
    c.loop-rest.invariant c.in-Some.is c.cut.ensures.parts c.in_ok-number.ensures c.in-Some-2.is c.in_ok-push-in-Some-2.ensures.ok

pub loop-rest-preserved : goal.loop-rest-preserved
loop-rest-preserved c =
    loop-large number_said is_small c.args.between (parts_left c.args.between (option_copied c.args.behind)) c.loop-rest.large c.loop-rest.numbers c.loop-rest.rest c.cut.result.1 c.in-Some.text c.cut.result.0 c.in_ok-number.field-0
    c.loop-rest.invariant c.in-Some.is c.cut.ensures.parts c.in_ok-number.ensures c.in-None.is
