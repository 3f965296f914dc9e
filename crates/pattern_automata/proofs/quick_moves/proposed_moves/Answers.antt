use Rattle.std.proofs.Common.{List, All, sym, subst}
use Rattle.std.proofs.lemmas.List.Elements.{All-push}
use Rattle.pattern_automata.specs.declared.moves.Move.{Move}
use Rattle.pattern_automata.specs.Proposals.{HasRightPatches}
use Rattle.pattern_automata.proofs.Telling.{characters-next}
use Rattle.pattern_automata.proofs.quick_moves.proposed_moves.Goals as goal

pub loop-i-preserved : goal.loop-i-preserved
loop-i-preserved c = (
  subst (λ (x : List Move). All (HasRightPatches c.args.fronts.now) x) (sym c.in_ok-push.ensures.items)
      (All-push (HasRightPatches c.args.fronts.now) c.loop-i.moves.items c.in_ok-proposed_move.field-0 c.loop-i.invariant.0 c.in_ok-proposed_move.ensures.right),
  characters-next c.loop-i.moves.items _ _ _ _ c.args.characters.now c.loop-i.invariant.1 c.in_ok-push.ensures.items c.in_ok-proposed_move.ensures.character c.loop-i-test.true c.index-characters-i.is,
)
