use Rattle.std.proofs.Common.{arith}
use Rattle.pattern_automata.proofs.Indexing.{stands-before}
use Rattle.pattern_automata.proofs.check.stands_earlier.Goals as goal

pub returns : goal.returns
returns c = λ yes'.
    stands-before c.args.closed.now c.args.i c.in-Some.earlier c.get-state.result c.get.result (omega (arith, c.if-earlier-i.false)) c.requires c.get-state.ensures c.get.ensures (c.is_equal.ensures yes')
