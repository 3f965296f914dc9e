use Rattle.std.proofs.Common.{rules}
use Rattle.strata.proofs.Standing.{equal-within, settles-within}
use Rattle.strata.proofs.asking.is_within.Goals as goal

pub returns-then-is_equal-clause-decides : goal.returns-then-is_equal-clause-decides
returns-then-is_equal-clause-decides g c =
    equal-within (g.I.Inclusion.schema c.args.by.now) (g.I.Inclusion.states c.args.by.now) c.args.slot.now c.args.one.now c.args.other.now (c.is_equal.ensures.0 c.if-is_equal.true)

pub returns-then-share_no_request-clause-decides : goal.returns-then-share_no_request-clause-decides
returns-then-share_no_request-clause-decides g c =
    let met = c.requires.met in
    record { request = met.request; valid = met.valid; meets = met.meets; misses = c.share_no_request.ensures c.if-share_no_request.true met.request met.meets }

pub returns-clause-decides : goal.returns-clause-decides
returns-clause-decides g c =
    settles-within (g.I.Inclusion.schema c.args.by.now) (g.I.Inclusion.states c.args.by.now) c.args.slot.now c.args.one.now c.args.other.now c.in_ok-answer.answer c.settled.result (λ e. let on = c.is_equal.ensures.1 e in absurd (cc)) c.in_ok-answer.ensures.answer c.settled.ensures

pub returns-in-Every-clause-decides : goal.returns-in-Every-clause-decides
returns-in-Every-clause-decides g c = search rules
