use Rattle.std.proofs.Common.{◌∙◌, Some, sym, subst, true≢false}
use Rattle.policy_model.specs.Requests.{IsWord}
use Rattle.slot_theory.proofs.Sampling.{or_x-none, word-sample, word-x}
use Rattle.slot_theory.proofs.unasked.word_of_shape.Goals as goal

pub returns-then-is_empty-clause-value : goal.returns-then-is_empty-clause-value
returns-then-is_empty-clause-value c = c.in_ok-x.ensures ∙ or_x-none c.in_ok-text.text _ c.in_ok-text.ensures.value (c.is_empty.ensures.empty.0 c.if-is_empty.true)

pub returns-then-is_empty-clause-word : goal.returns-then-is_empty-clause-word
returns-then-is_empty-clause-word c =
    subst (IsWord (Some c.args.shape.now)) (sym c.in_ok-x.ensures)
    (word-x c.args.shape.now c.in_ok-text.text c.requires c.in_ok-text.ensures.value (c.is_empty.ensures.empty.0 c.if-is_empty.true))

pub returns-clause-word : goal.returns-clause-word
returns-clause-word c =
    word-sample c.args.shape.now c.in_ok-text.text c.in_ok-text.ensures.value (λ none. true≢false (sym (c.is_empty.ensures.empty.1 none) ∙ c.if-is_empty.false)) c.is_empty.ensures.text
