use Rattle.std.proofs.Common.{◌≡◌, ◌++◌, ◌+◌, drop}
use Rattle.set_questions.specs.Requirements.{names_with}
use Rattle.policy_model.specs.StatementNames.{named_documents}
use Rattle.set_questions.proofs.names.add_documents.Given as goal

-- the names that are there, and those of the documents that are left, are all
abbrev pub invariant-loop-i : goal.invariant-loop-i
invariant-loop-i l = l.names ++ names_with l.effect (named_documents (l.from + l.i) (drop l.i l.documents)) ≡ l.fn.names ++ names_with l.effect (named_documents l.from l.documents)
