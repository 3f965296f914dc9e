use Rattle.std.proofs.Common.{◌∙◌, ap, length}
use Rattle.pattern_automata.specs.Moves.{fronts}
use Rattle.pattern_automata.proofs.Moving.{move-at}
use Rattle.pattern_automata.proofs.Searching.{words-length}
use Rattle.pattern_automata.proofs.eager.try_move.Goals as goal

pub leads_as_earlier-requires-clause-size : goal.leads_as_earlier-requires-clause-size
leads_as_earlier-requires-clause-size c = ap length c.get.ensures ∙ words-length _ _ _ c.requires.tree _ c.requires.within

pub leads_as_earlier-requires-clause-does : goal.leads_as_earlier-requires-clause-does
leads_as_earlier-requires-clause-does c = move-at (fronts c.args.wants.now.patterns) c.args.machine.now.moves.items c.args.k _ c.requires.machine.moves c.requires.inside c.index-step.ensures

pub turn-requires-clause-does : goal.turn-requires-clause-does
turn-requires-clause-does c = move-at (fronts c.args.wants.now.patterns) c.args.machine.now.moves.items c.args.k _ c.requires.machine.moves c.requires.inside c.index-step.ensures
