use Rattle.std.proofs.Common.{arith}
use Rattle.std.proofs.lemmas.List.{take_all}
use Rattle.pattern_automata.proofs.Indexing.{index-none}
use Rattle.pattern_automata.proofs.check.members_of.Goals as goal

pub loop-i-init : goal.loop-i-init
loop-i-init c = rw (c.in_ok-new.ensures, c.in_ok-new-2.ensures) (index-none c.args.patterns.now)

pub returns : goal.returns
returns c = rw (take_all c.loop-i.i c.args.closed.now (omega (arith, c.len-i-end.ensures, c.loop-i-test.false))) at c.loop-i.invariant
