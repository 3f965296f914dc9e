use Rattle.std.proofs.Common.{◌≡◌, map, take}
use Rattle.serde_json.specs.View.{view}
use Rattle.findings.specs.Summaries.{findings_of}
use Rattle.policy_emit.specs.Emitted.{StatementsAreKept, statement_data}
use Rattle.policy_emit.proofs.policy.statements_json.Given as goal

abbrev pub invariant-loop-found : goal.invariant-loop-found
invariant-loop-found l =
    let done = findings_of (take l.found-index l.fn.summary) in
    (map view l.statements.items ≡ map (statement_data l.fn.schema l.fn.strata.dimensions) done) × StatementsAreKept l.fn.schema l.fn.strata.dimensions done
