use Rattle.policy_model.proofs.validity.keys_are_valid.Goals as goal

pub returns-then-entries_are_valid : goal.returns-then-entries_are_valid
returns-then-entries_are_valid c = (
  λ e. record { each = c.entries_are_valid.ensures.0 c.if-entries_are_valid.true; required = c.required_are_there.ensures.0 e },
  λ valid. c.required_are_there.ensures.1 valid.required,
)
