use Rattle.std.proofs.Common.{◌-◌, List, ℕ, arith, length, subst, sym}
use Rattle.set_operators.proofs.Falling.{FallBetween, between-falls, between-push, between-skip}
use Rattle.set_operators.proofs.few.few_asks.Goals as goal

pub asks-preserved-in-Continue-branch-4 : goal.asks-preserved-in-Continue-branch-4
asks-preserved-in-Continue-branch-4 c = (
  omega (arith, c.asks.invariant.0),
  subst (λ (ks : List ℕ). FallBetween (c.asks.left - 1) (length c.args.asks.now) ks) (sym c.in_ok-push.ensures.items)
      (between-push c.asks.left (c.asks.left - 1) (length c.args.asks.now) c.asks.few.items (omega (arith, c.asks-test.true)) c.asks.invariant.1),
)

pub asks-preserved : goal.asks-preserved
asks-preserved c = (omega (arith, c.asks.invariant.0), between-skip c.asks.left (c.asks.left - 1) (length c.args.asks.now) c.asks.few.items (omega arith) c.asks.invariant.1)

pub returns : goal.returns
returns c = record { falling = between-falls c.asks.left (length c.args.asks.now) c.asks.few.items c.asks.invariant.1 }
