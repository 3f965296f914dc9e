use Rattle.std.proofs.Common.{get_or, sym}
use Rattle.std.proofs.lemmas.List.{get_or_default}
use Rattle.pattern_automata.specs.declared.moves.Patch.{Patch}
use Rattle.pattern_automata.specs.Steps.{IsAway}
use Rattle.pattern_automata.proofs.Indexing.{all-more}
use Rattle.pattern_automata.proofs.Laws.{all-end}
use Rattle.pattern_automata.proofs.words.leads_alike.Goals as goal

pub loop-patch-preserved : goal.loop-patch-preserved
loop-patch-preserved c =
    let d : Patch = record { index = 0; one = 0; stay = 0; differs = 0 } in
    let p : Patch = get_or c.args.patches.now c.loop-patch.patch-index d in
    all-more (IsAway c.args.state.now) c.args.patches.now c.loop-patch.patch-index p c.loop-patch-test.true (sym (get_or_default c.args.patches.now c.loop-patch.patch-index p d c.loop-patch-test.true))
    (c.is_away.ensures c.if-not-is_away.false) c.loop-patch.invariant

pub returns : goal.returns
returns c = λ _. all-end (IsAway c.args.state.now) c.args.patches.now _ c.loop-patch-test.false c.loop-patch.invariant
