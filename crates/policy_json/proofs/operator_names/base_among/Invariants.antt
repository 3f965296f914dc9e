use Rattle.std.proofs.Common.{◌≡◌, find, bytes_eq, drop}
use Rattle.policy_json.specs.OperatorNames.{base_text}
use Rattle.policy_json.proofs.operator_names.base_among.Given as goal

abbrev pub invariant-loop-base : goal.invariant-loop-base
invariant-loop-base l = find (λ b. bytes_eq (base_text b) l.name) (drop l.base-index l.bases) ≡ find (λ b. bytes_eq (base_text b) l.name) l.bases
