use Rattle.std.proofs.Common.{◌≡◌, ◌+◌, All, drop, length, map, sum_by}
use Rattle.std.specs.List.{flat_map}
use Rattle.serde_json.specs.View.{view}
use Rattle.policy_model.specs.Soundness.{DocumentIsSound}
use Rattle.policy_json.specs.Documents.{document_of}
use Rattle.json_shapes.specs.Json.{values_in}
use Rattle.policy_json.specs.Sets.{documents_checks}
use Rattle.policy_json.proofs.Lists.{Reading}
use Rattle.policy_json.proofs.set.read_guards.Given as goal

abbrev pub invariant-loop-value : goal.invariant-loop-value
invariant-loop-value l = record {
  reading : Reading
      (documents_checks (l.fn.counts.documents + 1) l.fn.counts.statements (flat_map values_in (map view l.values)))
      (documents_checks (l.counts.documents + 1) l.counts.statements (flat_map values_in (map view (drop l.value-index l.values))))
      (map (λ g. map document_of (values_in g)) (map view l.values))
      l.guards
      (map (λ g. map document_of (values_in g)) (map view (drop l.value-index l.values)));
  documents : l.counts.documents ≡ l.fn.counts.documents + sum_by (λ g. length g) l.guards;
  sound : All (λ g. All DocumentIsSound g) l.guards;
}
