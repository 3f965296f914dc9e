use Rattle.std.proofs.Common.{All, subst}
use Rattle.std.proofs.lemmas.List.{take_all}
use Rattle.std.proofs.lemmas.List.Elements.{All-more}
use Rattle.pattern_automata.specs.declared.named.Named.{Named}
use Rattle.pattern_automata.specs.Proposals.{HasItsPatch}
use Rattle.pattern_automata.proofs.quick_moves.have_their_patches.Goals as goal

pub loop-own-preserved : goal.loop-own-preserved
loop-own-preserved c =
    All-more (λ (x : Named). HasItsPatch c.args.indices.now c.args.moves.now c.args.index x.character) c.args.named.now c.loop-own.own-index _ c.loop-own-test.true c.loop-own.invariant
    (c.has_its_patch.ensures c.if-not-has_its_patch.false)

pub returns : goal.returns
returns c = λ yes. (
  subst (All (λ (x : Named). HasItsPatch c.args.indices.now c.args.moves.now c.args.index x.character)) (take_all c.loop-own.own-index c.args.named.now c.loop-own-test.false) c.loop-own.invariant,
  c.has_its_patch-2.ensures yes,
)
