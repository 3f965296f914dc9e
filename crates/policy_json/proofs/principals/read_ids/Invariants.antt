use Rattle.std.proofs.Common.{map, drop}
use Rattle.serde_json.specs.View.{view}
use Rattle.policy_json.specs.Principals.{entry_of, id_checks}
use Rattle.json_shapes.specs.Json.{text_of}
use Rattle.json_shapes.proofs.Laws.{IsRead}
use Rattle.policy_json.proofs.principals.read_ids.Given as goal

abbrev pub invariant-loop-value : goal.invariant-loop-value
invariant-loop-value l = IsRead (id_checks l.location l.name) (map (λ d. entry_of l.kind (text_of d))) l.fn.entries (map view l.values) (map view (drop l.value-index l.values)) l.entries
