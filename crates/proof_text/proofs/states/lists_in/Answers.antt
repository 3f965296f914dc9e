use Rattle.std.specs.Option.{option_copied}
use Rattle.proof_text.specs.Steps.{parts_left}
use Rattle.proof_text.proofs.Reading.{put-next}
use Rattle.proof_text.proofs.states.lists_in.Goals as goal

pub loop-rest-preserved : goal.loop-rest-preserved
loop-rest-preserved c =
    put-next (parts_left 32 (option_copied c.args.behind)) c.loop-rest.large c.loop-rest.lists _ c.loop-rest.rest c.cut.result.1 c.in-Some.text c.cut.result.0 c.loop-rest.invariant c.in-Some.is c.cut.ensures.parts
    c.in_ok-small.small _ c.in_ok-small.ensures c.is_large-large.ensures
