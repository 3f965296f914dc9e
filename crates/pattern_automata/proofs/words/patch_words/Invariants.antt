use Rattle.std.proofs.Common.{◌≡◌, length, take}
use Rattle.pattern_automata.specs.Steps.{ArePatched}
use Rattle.pattern_automata.proofs.words.patch_words.Given as goal

abbrev pub invariant-loop-patch : goal.invariant-loop-patch
invariant-loop-patch l = (length l.moved.items ≡ length l.state) × ArePatched l.state (take l.patch-index l.patches) l.fn.moved.items l.moved.items
