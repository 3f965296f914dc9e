use Rattle.std.proofs.Common.{◌≡◌, ◌++◌, All, drop, map}
use Rattle.serde_json.specs.View.{view}
use Rattle.policy_model.specs.Requests.{IsOfKind}
use Rattle.request_schema.specs.SchemaRules.{are_of_kind, string_in, values_of_kind}
use Rattle.request_json.proofs.keys.read_each.Given as goal

-- the values so far are of the kind and are what their texts write
abbrev pub invariant-loop-value : goal.invariant-loop-value
invariant-loop-value l = record {
  passes : are_of_kind l.kind (map string_in (map view l.values)) ≡ are_of_kind l.kind (map string_in (map view (drop l.value-index l.values)));
  values : values_of_kind l.kind (map string_in (map view l.values)) ≡ l.read ++ values_of_kind l.kind (map string_in (map view (drop l.value-index l.values)));
  kind : All (IsOfKind l.kind) l.read;
}
