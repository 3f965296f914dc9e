use Rattle.std.proofs.Common.{All, take}
use Rattle.policy_model.specs.Requests.{HasValue}
use Rattle.policy_model.proofs.required.has_values.Given as goal

-- those before it have values
abbrev pub invariant-names : goal.invariant-names
invariant-names l = All (HasValue l.context) (take l.name-index l.names)
