use Rattle.std.proofs.Common.{◌≡◌, ◌↔◌, All, drop}
use Rattle.json_shapes.specs.Checks.{first_fault}
use Rattle.policy_model.specs.Requests.{HasValue}
use Rattle.request_json.specs.RequestKeys.{presence_checks}
use Rattle.request_json.proofs.required.require_values.Given as goal

-- the first fault is that of the keys that are left, and all have values where those do
abbrev pub invariant-loop-key : goal.invariant-loop-key
invariant-loop-key l = record {
  faults : first_fault (presence_checks l.context l.keys) ≡ first_fault (presence_checks l.context (drop l.key-index l.keys));
  there : All (HasValue l.context) l.keys ↔ All (HasValue l.context) (drop l.key-index l.keys);
}
