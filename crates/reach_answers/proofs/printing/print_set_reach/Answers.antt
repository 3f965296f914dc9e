use Rattle.std.proofs.Common.{inl}
use Rattle.std.proofs.lemmas.Result.{err_from_is_err_and}
use Rattle.command_words.specs.Asked.{texts_in}
use Rattle.run_inputs.proofs.FileLaws.{if_answered_weaker, or_answered_weaker}
use Rattle.reach_answers.specs.ReachPrinted.{IsReachOfSet}
use Rattle.reach_answers.specs.ZoneRefusals.{IsZoneRefused}
use Rattle.reach_answers.proofs.Reaching.{zone-printed}
use Rattle.reach_answers.proofs.printing.print_set_reach.Goals as goal

pub returns-in_err-zone : goal.returns-in_err-zone
returns-in_err-zone c =
    let one = c.args.one.now in
    let p = err_from_is_err_and c.from_residual.result c.from_residual.ensures.1 in
    rw (p.1, p.2) (if_answered_weaker _ (IsZoneRefused one.schema c.args.zone.now) (IsReachOfSet (texts_in c.args.names.now) c.args.limits c.args.zone.now one) (λ p v. inl v) c.in_err-zone.ensures.read)

pub returns : goal.returns
returns c =
    let said = zone-printed (texts_in c.args.names.now) c.args.limits c.args.zone.now c.args.one.now c.in_ok-zone.zone c.in_ok-zone.ensures.read in
    or_answered_weaker c.print_outside.result _ _ _ _ said said c.print_outside.ensures
