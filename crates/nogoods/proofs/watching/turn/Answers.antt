use Rattle.std.proofs.Common.{arith}
use Rattle.nogoods.proofs.Watches.{keeps-then, stays-none, turned-all, turned-next}
use Rattle.nogoods.proofs.watching.turn.Goals as goal

pub watchers-init : goal.watchers-init
watchers-init c = (λ bucket number there. there, stays-none c.args.lists.now c.args.path.now c.new-stay.result c.new-stay.ensures, λ k d lt. absurd (omega (arith, lt)))

pub returns-in_err-turn_one-clause-kept : goal.returns-in_err-turn_one-clause-kept
returns-in_err-turn_one-clause-kept c = keeps-then c.args.watching.now.items c.watchers.watching.items c.turn_one.new.watching.items c.watchers.invariant.0 c.turn_one.ensures.kept

pub watchers-preserved : goal.watchers-preserved
watchers-preserved c =
    let before = c.watchers.invariant in
    let now = c.turn_one.ensures in (
      keeps-then c.args.watching.now.items c.watchers.watching.items c.turn_one.new.watching.items before.0 now.kept,
      now.hits before.1,
      turned-next c.args.lists.now c.args.path.now c.watchers.watching.items c.turn_one.new.watching.items c.watchers.stay c.turn_one.new.stay c.args.watchers.now c.watchers.number-index 0 c.watchers-test.true now.kept now.stay before.2 c.in_ok-turn_one.ensures.turned,
    )

pub returns-clause-turned : goal.returns-clause-turned
returns-clause-turned c = turned-all c.args.lists.now c.args.path.now c.watchers.watching.items c.watchers.stay c.args.watchers.now c.watchers.number-index c.watchers-test.false c.watchers.invariant.2

pub returns-clause-kept : goal.returns-clause-kept
returns-clause-kept c = c.watchers.invariant.0

pub returns-clause-stay : goal.returns-clause-stay
returns-clause-stay c = c.watchers.invariant.1
