use Rattle.std.proofs.Common.{arith}
use Rattle.pattern_automata.proofs.Cutting.{within-ends}
use Rattle.pattern_automata.proofs.states.PlaceLists.len.Goals as goal

pub returns : goal.returns
returns c = omega (arith, c.len.ensures, within-ends c.self.inside.ends.items c.self.inside.places.items c.args.self.now c.self.view_is)
