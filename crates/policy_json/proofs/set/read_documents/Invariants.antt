use Rattle.std.proofs.Common.{◌≡◌, ◌+◌, All, drop, length, map}
use Rattle.serde_json.specs.View.{view}
use Rattle.policy_model.specs.Soundness.{DocumentIsSound}
use Rattle.policy_json.specs.Documents.{document_of}
use Rattle.policy_json.specs.Sets.{documents_checks, statement_count}
use Rattle.policy_json.proofs.Lists.{Reading}
use Rattle.policy_json.proofs.set.read_documents.Given as goal

abbrev pub invariant-loop-value : goal.invariant-loop-value
invariant-loop-value l = record {
  reading : Reading
      (documents_checks (l.fn.counts.documents + 1) l.fn.counts.statements (map view l.values))
      (documents_checks (l.counts.documents + 1) l.counts.statements (map view (drop l.value-index l.values)))
      (map document_of (map view l.values))
      l.documents
      (map document_of (map view (drop l.value-index l.values)));
  documents : l.counts.documents ≡ l.fn.counts.documents + length l.documents;
  statements : l.counts.statements + statement_count (map view (drop l.value-index l.values)) ≡ l.fn.counts.statements + statement_count (map view l.values);
  sound : All DocumentIsSound l.documents;
}
