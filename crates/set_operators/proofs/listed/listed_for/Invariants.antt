use Rattle.std.proofs.Common.{ℕ, ◌<◌, get_or}
use Rattle.policy_model.specs.declared.value.Value.{Value}
use Rattle.set_operators.specs.Steps.{AnswersPicked}
use Rattle.set_operators.proofs.listed.listed_for.Given as goal

abbrev pub invariant-loop-value : goal.invariant-loop-value
invariant-loop-value l = (k : ℕ) (d : Value) → k < l.value-index → AnswersPicked (get_or l.listed k d) l.choice l.asks → ⊥
