use Rattle.std.proofs.Common.{ℕ, ◌<◌, get_or, Bool}
use Rattle.set_operators.specs.declared.ask.KeyAsk.{KeyAsk}
use Rattle.set_operators.specs.Steps.{AnswersAt}
use Rattle.set_operators.proofs.listed.answers_each.Given as goal

abbrev pub invariant-loop-i : goal.invariant-loop-i
invariant-loop-i l = (k : ℕ) (d : KeyAsk × Bool) → k < l.i → AnswersAt l.value l.choice k (get_or l.asks k d)
