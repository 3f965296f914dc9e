use Rattle.std.proofs.Common.{◌≢◌, rules}
use Rattle.policy_model.specs.declared.value.Kind.TheVariants.{Text}
use Rattle.set_operators.proofs.Showing.{points-shown}
use Rattle.set_operators.proofs.shown.shows_points.Goals as goal

pub returns : goal.returns
returns c =
    let other : c.args.rule.now.kind ≢ Text = search rules in
    points-shown c.args.rule.now c.args.asks.now c.has_none.result other c.has_none.ensures
