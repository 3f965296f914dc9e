use Rattle.std.proofs.Common.{◌≡◌, map, take}
use Rattle.serde_json.specs.View.{view}
use Rattle.request_json.specs.RequestTexts.{value_data}
use Rattle.request_json.proofs.write.values_json.Given as goal

abbrev pub invariant-loop-value : goal.invariant-loop-value
invariant-loop-value l = map view l.items.items ≡ map value_data (take l.value-index l.values)
