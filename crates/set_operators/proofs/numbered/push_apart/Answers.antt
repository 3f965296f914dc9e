use Rattle.std.proofs.Common.{false}
use Rattle.set_operators.proofs.Counting.{apart-push}
use Rattle.set_operators.proofs.numbered.push_apart.Goals as goal

pub loop-k-preserved : goal.loop-k-preserved
loop-k-preserved g c =
    apart-push (g.L.Numbered.literal_of false) c.args.first c.loop-k.k _ _ _ _ c.loop-k.invariant c.in_ok-no_clause.ensures c.in_ok-push.ensures.ok
