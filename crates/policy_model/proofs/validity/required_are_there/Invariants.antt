use Rattle.std.proofs.Common.{◌↔◌, All}
use Rattle.policy_model.specs.Requests.{IsThere}
use Rattle.policy_model.proofs.validity.required_are_there.Given as goal

-- all required keys are there where those that are left are
abbrev pub invariant-loop-key : goal.invariant-loop-key
invariant-loop-key l = All (IsThere l.context) l.keys ↔ All (IsThere l.context) l.key-iterator
