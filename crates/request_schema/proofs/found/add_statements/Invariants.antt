use Rattle.std.proofs.Common.{◌≡◌, ◌++◌, ◌+◌, drop}
use Rattle.policy_model.specs.StatementNames.{named_statements}
use Rattle.request_schema.specs.Uses.{uses_found, uses_of_statements}
use Rattle.request_schema.proofs.found.add_statements.Given as goal

abbrev pub invariant-loop-i : goal.invariant-loop-i
invariant-loop-i l = uses_found l.uses.items ++ uses_of_statements l.second (named_statements l.document (l.i + 1) (drop l.i l.statements)) ≡ uses_found l.fn.uses.items ++ uses_of_statements l.second (named_statements l.document 1 l.statements)
