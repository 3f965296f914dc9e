use Rattle.std.proofs.Common.{refl, arith}
use Rattle.wildcard_lang.proofs.Refusing.{reaches_first, reaches_more, reached_part, reached_whole}
use Rattle.wildcard_lang.proofs.runs.reach.Goals as goal

pub run-init : goal.run-init
run-init g c = reaches_first g.X.Taken.taken _ _

pub returns-then-is_refused : goal.returns-then-is_refused
returns-then-is_refused g c = reached_part g.X.Taken.taken _ _ _ _ _ _ c.run-test.true c.is_refused.ensures c.if-is_refused.true c.run.invariant

pub run-preserved : goal.run-preserved
run-preserved g c = reaches_more g.X.Taken.taken _ _ _ _ _ _ _ c.requires c.run-test.true c.is_refused.ensures c.if-is_refused.false c.next_text-ahead.ensures c.run.invariant

pub returns : goal.returns
returns g c = reached_whole g.X.Taken.taken _ _ _ _ _ (omega (arith, c.run-test.false)) refl c.run.invariant
