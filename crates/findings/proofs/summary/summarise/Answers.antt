use Rattle.std.proofs.lemmas.Result.{err_from_is_err_and}
use Rattle.findings.proofs.Counted.{few-found}
use Rattle.findings.proofs.Lessened.{asks-made}
use Rattle.findings.proofs.Summing.{all-summarised}
use Rattle.findings.proofs.summary.summarise.Goals as goal

pub new-requires : goal.new-requires
new-requires g c =
    let made = c.requires.made in
    let is = (asks-made (g.D.Decide.schema c.args.asks.now) made.0 c.args.base.now c.args.strata.now made.1).is in
    record { few = is.few; below = is.below }

pub returns-in_err-look_at_each-clause-summary : goal.returns-in_err-look_at_each-clause-summary
returns-in_err-look_at_each-clause-summary g c =
    let p = err_from_is_err_and c.from_residual-in_err-look_at_each.result c.from_residual-in_err-look_at_each.ensures.1 in
    rw (p.1, p.2) c.in_err-look_at_each.ensures.fault

pub returns-clause-summary : goal.returns-clause-summary
returns-clause-summary g c =
    all-summarised (g.D.Decide.schema c.args.asks.now) c.args.base.now c.args.strata.now c.look_at_each.new.walk (g.D.Decide.splits c.args.asks.now) (g.D.Decide.states c.args.asks.now) c.args.findings c.in_ok-found_in.field-0
    c.in_ok-look_at_each.ensures.ended c.in_ok-found_in.ensures.found c.in_ok-found_in.ensures.order

pub returns-clause-few : goal.returns-clause-few
returns-clause-few g c =
    few-found (g.D.Decide.schema c.args.asks.now) c.args.base.now c.args.strata.now c.look_at_each.new.walk c.args.findings c.in_ok-found_in.field-0 c.requires.made c.in_ok-look_at_each.ensures.ended c.in_ok-look_at_each.ensures.few
    c.in_ok-found_in.ensures.found c.in_ok-found_in.ensures.order
