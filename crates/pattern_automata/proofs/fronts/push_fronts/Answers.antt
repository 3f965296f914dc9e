use Rattle.std.proofs.Common.{◌∙◌, ◌++◌, ◌∷◌, None, Some, List, ap, arith, map}
use Rattle.std.proofs.lemmas.List.{take_all}
use Rattle.wildcard_lang.specs.declared.piece.Piece.{Piece}
use Rattle.pattern_automata.proofs.Fronting.{pieces-more}
use Rattle.pattern_automata.proofs.fronts.push_fronts.Goals as goal

pub loop-piece-preserved : goal.loop-piece-preserved
loop-piece-preserved c =
    pieces-more c.args.fronts.now.items c.loop-piece.fronts.items _ c.as_slice-piece-items.result.now c.loop-piece.piece-index _ c.loop-piece-test.true c.loop-piece.invariant c.in_ok-push-2.ensures.items

pub returns : goal.returns
returns c =
    let all = take_all c.loop-piece.piece-index c.as_slice-piece-items.result.now (omega (arith, c.loop-piece-test.false)) in
    c.loop-piece.invariant ∙ ap (λ (pieces : List Piece). c.args.fronts.now.items ++ (None ∷ map Some pieces)) (all ∙ c.as_slice-piece-items.ensures.value)
