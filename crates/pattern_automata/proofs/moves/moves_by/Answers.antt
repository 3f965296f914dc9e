use Rattle.std.proofs.Common.{List, All, sym, subst}
use Rattle.std.proofs.lemmas.List.Elements.{All-push}
use Rattle.pattern_automata.specs.declared.moves.Move.{Move}
use Rattle.pattern_automata.specs.Moves.{IsMove}
use Rattle.pattern_automata.proofs.Telling.{characters-next}
use Rattle.pattern_automata.proofs.moves.moves_by.Goals as goal

pub loop-c-preserved : goal.loop-c-preserved
loop-c-preserved c = (
  subst (λ (x : List Move). All (IsMove c.args.fronts.now) x) (sym c.in_ok-push.ensures.items)
      (All-push (IsMove c.args.fronts.now) c.loop-c.moves.items c.in_ok-move_of.field-0 c.loop-c.invariant.0 c.in_ok-move_of.ensures.does),
  characters-next c.loop-c.moves.items _ _ _ _ c.args.characters.now c.loop-c.invariant.1 c.in_ok-push.ensures.items c.in_ok-move_of.ensures.character c.loop-c-test.true c.c-item.is,
)
