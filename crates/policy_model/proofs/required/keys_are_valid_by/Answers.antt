use Rattle.policy_model.proofs.Requiring.{there-of}
use Rattle.policy_model.proofs.required.keys_are_valid_by.Goals as goal

pub returns-then-not-has_values : goal.returns-then-not-has_values
returns-then-not-has_values c =
    let there = there-of c.args.context.now c.args.keys.now c.args.required.now c.requires in
    (λ e. absurd (cc), λ valid. (let yes_ = c.has_values.ensures.1 (there.1 valid.required) in absurd (cc)))

pub returns : goal.returns
returns c =
    let there = there-of c.args.context.now c.args.keys.now c.args.required.now c.requires in (
      λ e. record { each = c.entries_are_valid.ensures.0 e; required = there.0 (c.has_values.ensures.0 (cc)) },
      λ valid. c.entries_are_valid.ensures.1 valid.each,
    )
