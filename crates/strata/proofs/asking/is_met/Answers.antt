use Rattle.strata.proofs.Standing.{any-met, settles-met}
use Rattle.strata.proofs.asking.is_met.Goals as goal

pub returns-in-Every-clause-decides : goal.returns-in-Every-clause-decides
returns-in-Every-clause-decides g c =
    any-met (g.I.Inclusion.schema c.args.by.now) c.args.slot.now c.args.one.now c.in-Every.is (c.sound_schemas_have_requests.ensures (g.I.Inclusion.schema c.args.by.now) c.requires.slot.sound)

pub returns-clause-decides : goal.returns-clause-decides
returns-clause-decides g c =
    settles-met (g.I.Inclusion.schema c.args.by.now) (g.I.Inclusion.states c.args.by.now) c.args.slot.now c.args.one.now c.in_ok-answer.answer c.settled.result (λ e. c.in_default.not-Every e) c.in_ok-answer.ensures.answer c.settled.ensures
