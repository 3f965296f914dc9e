use Rattle.std.proofs.Common.{◌∙◌, ◌<◌, get_or, refl, sym, arith, length}
use Rattle.std.proofs.lemmas.List.{get_or_default, length-set}
use Rattle.pattern_automata.specs.declared.moves.Patch.{Patch}
use Rattle.pattern_automata.proofs.Patching.{patched-more, patched-end}
use Rattle.pattern_automata.proofs.words.patch_words.Goals as goal

pub loop-patch-preserved : goal.loop-patch-preserved
loop-patch-preserved c =
    let d : Patch = record { index = 0; one = 0; stay = 0; differs = 0 } in
    let i = c.loop-patch.patch-index in
    let p : Patch = get_or c.args.patches.now i d in
    let w = c.loop-patch.invariant in
    let room : p.index < length c.loop-patch.moved.items = omega (arith, w.0, c.requires.within i d c.loop-patch-test.true) in (
      length-set c.loop-patch.moved.items p.index c.moved_word.result ∙ w.0,
      λ k h. patched-more c.args.state.now c.args.patches.now i p c.args.moved.now.items c.loop-patch.moved.items _ c.moved_word.result c.loop-patch-test.true (sym (get_or_default c.args.patches.now i p d c.loop-patch-test.true)) refl room c.moved_word.ensures k (w.1 k h),
    )

pub returns-clause-patched : goal.returns-clause-patched
returns-clause-patched c = patched-end c.args.state.now c.args.patches.now c.loop-patch.patch-index c.args.moved.now.items c.loop-patch.moved.items c.loop-patch-test.false c.loop-patch.invariant.1
