use Rattle.std.proofs.Common.{◌≡◌, ◌≤◌, ◌++◌, ◌+◌, drop, length}
use Rattle.std.specs.Prelude.{sum_by}
use Rattle.policy_model.specs.StatementNames.{named_guards}
use Rattle.request_schema.specs.Uses.{uses_found, uses_of_statements}
use Rattle.request_schema.proofs.found.add_guards.Given as goal

abbrev pub invariant-loop-guard : goal.invariant-loop-guard
invariant-loop-guard l = record {
  found : uses_found l.uses.items ++ uses_of_statements l.second (named_guards l.next (drop l.guard-index l.guards)) ≡ uses_found l.fn.uses.items ++ uses_of_statements l.second (named_guards l.from l.guards);
  room : l.next + sum_by (λ g. length g) (drop l.guard-index l.guards) ≤ 4294967296;
}
