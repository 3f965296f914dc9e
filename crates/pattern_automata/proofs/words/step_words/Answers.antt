use Rattle.std.proofs.Common.{◌∙◌, ap, length}
use Rattle.pattern_automata.proofs.Patching.{step-ok}
use Rattle.pattern_automata.proofs.words.step_words.Goals as goal

pub returns-clause-marks : goal.returns-clause-marks
returns-clause-marks c =
    step-ok c.fill_words.result c.args.masks.now c.args.patches.now c.args.state.now c.moved_words.new.moved.items c.as_slice.result.now c.fill_words.new.words.items c.in_ok-moved_words.ensures
    (λ k h. rw c.as_slice.ensures.value (c.patch_words.ensures.patched k h)) (ap length c.as_slice.ensures.value ∙ c.patch_words.ensures.count) (rw (← c.as_slice-2.ensures.value) c.fill_words.ensures.marks)
