use Rattle.std.proofs.Common.{◌≡◌, drop, map}
use Rattle.std.specs.List.{list_all}
use Rattle.serde_json.specs.View.{view}
use Rattle.policy_json.specs.Conditions.{is_single}
use Rattle.policy_json.proofs.conditions.are_single.Given as goal

abbrev pub invariant-loop-value : goal.invariant-loop-value
invariant-loop-value l = list_all is_single (map view (drop l.value-index l.values)) ≡ list_all is_single (map view l.values)
