use Rattle.std.proofs.Common.{refl, sym, ◌∙◌, arith}
use Rattle.strata.proofs.Telling.{nothing-at, nothing-more}
use Rattle.strata.proofs.rows.is_nothing_between.Goals as goal

pub loop-k-init : goal.loop-k-init
loop-k-init c = λ m l. absurd (omega arith)

pub returns-then-is_between : goal.returns-then-is_between
returns-then-is_between c = nothing-at c.args.rows.now c.args.j c.loop-k.k c.args.i c.loop-k-test.true (sym c.is_between.ensures ∙ c.if-is_between.true)

pub loop-k-preserved : goal.loop-k-preserved
loop-k-preserved c = nothing-more c.args.rows.now c.args.j c.loop-k.k c.args.i c.loop-k.invariant (sym c.is_between.ensures ∙ c.if-is_between.false)

pub returns : goal.returns
returns c = (λ _. λ m l. c.loop-k.invariant m (omega (arith, l, c.loop-k-test.false)), λ _. refl)
