use Rattle.std.proofs.Common.{◌≢◌, ◌<◌, ℕ, Some, slice_get}
use Rattle.command_words.specs.Asked.{texts_in}
use Rattle.certified_summaries.proofs.wording.number_of.Given as goal

abbrev pub invariant-loop-i : goal.invariant-loop-i
invariant-loop-i l = (k : ℕ) → k < l.i → slice_get (texts_in l.texts) k ≢ Some l.text
