use Rattle.std.proofs.Common.{◌≡◌, ◌+◌, ◌≤◌, All, drop, length, map}
use Rattle.serde_json.specs.View.{view}
use Rattle.policy_model.specs.Soundness.{StatementIsSound}
use Rattle.policy_json.specs.declared.statement.TheConstants.{MOST_STATEMENTS}
use Rattle.policy_json.specs.Documents.{numbered_checks}
use Rattle.policy_json.specs.Statements.{statement_of}
use Rattle.policy_json.proofs.Lists.{Reading}
use Rattle.policy_json.proofs.document.read_statements.Given as goal

abbrev pub invariant-loop-value : goal.invariant-loop-value
invariant-loop-value l = record {
  reading : Reading
      (numbered_checks l.fn.document 1 (l.fn.before + 1) l.fn.escapes (map view l.values))
      (numbered_checks l.fn.document (l.value-index + 1) (l.fn.before + l.value-index + 1) l.fn.escapes (map view (drop l.value-index l.values)))
      (map (statement_of l.fn.escapes) (map view l.values))
      l.statements
      (map (statement_of l.fn.escapes) (map view (drop l.value-index l.values)));
  count : length l.statements ≡ l.value-index;
  few : l.fn.before + length l.statements ≤ MOST_STATEMENTS;
  sound : All StatementIsSound l.statements;
}
