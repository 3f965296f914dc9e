use Rattle.std.proofs.Common.{◌≡◌, drop, map}
use Rattle.std.specs.List.{list_all}
use Rattle.serde_json.specs.View.{view}
use Rattle.json_shapes.specs.Shapes.{is_list}
use Rattle.policy_json.proofs.set.are_lists.Given as goal

abbrev pub invariant-loop-value : goal.invariant-loop-value
invariant-loop-value l = list_all is_list (map view (drop l.value-index l.values)) ≡ list_all is_list (map view l.values)
