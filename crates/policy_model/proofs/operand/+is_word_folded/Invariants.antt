use Rattle.std.proofs.Common.{length}
use Rattle.policy_model.proofs.operand.+is_word_folded.Given as goal

abbrev pub decreases-is_word_folded : goal.decreases-is_word_folded
decreases-is_word_folded l = length l.text.now
