use Rattle.std.proofs.Common.{◌≡◌, ◌++◌, ◌+◌, drop}
use Rattle.policy_model.specs.StatementNames.{named_documents}
use Rattle.request_schema.specs.Uses.{uses_found, uses_of_statements}
use Rattle.request_schema.proofs.found.add_documents.Given as goal

abbrev pub invariant-loop-i : goal.invariant-loop-i
invariant-loop-i l = uses_found l.uses.items ++ uses_of_statements l.second (named_documents (l.from + l.i) (drop l.i l.documents)) ≡ uses_found l.fn.uses.items ++ uses_of_statements l.second (named_documents l.from l.documents)
