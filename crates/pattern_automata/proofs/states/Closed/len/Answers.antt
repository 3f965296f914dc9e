use Rattle.std.proofs.Common.{arith}
use Rattle.pattern_automata.proofs.Cutting.{within-ends}
use Rattle.pattern_automata.proofs.states.Closed.len.Goals as goal

pub returns : goal.returns
returns c = omega (arith, c.len.ensures, within-ends c.self.inside.ends.items c.self.inside.lists c.args.self.now c.self.view_is)
