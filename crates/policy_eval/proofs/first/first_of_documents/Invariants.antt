use Rattle.std.proofs.Common.{◌+◌, drop, Option}
use Rattle.policy_model.specs.declared.set.StatementName.{StatementName}
use Rattle.policy_model.specs.StatementNames.{named_documents}
use Rattle.policy_eval.specs.Deciding.{FirstIs}
use Rattle.policy_eval.proofs.first.first_of_documents.Given as goal

-- what is first in the documents that are left is first in all
abbrev pub invariant-loop-i : goal.invariant-loop-i
invariant-loop-i l = (o : Option StatementName) → FirstIs l.schema l.allow l.request (named_documents (l.from + l.i) (drop l.i l.documents)) o → FirstIs l.schema l.allow l.request (named_documents l.from l.documents) o
