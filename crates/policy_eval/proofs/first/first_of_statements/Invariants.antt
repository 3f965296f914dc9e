use Rattle.std.proofs.Common.{◌+◌, drop, Option}
use Rattle.policy_model.specs.declared.set.StatementName.{StatementName}
use Rattle.policy_model.specs.StatementNames.{named_statements}
use Rattle.policy_eval.specs.Deciding.{FirstIs}
use Rattle.policy_eval.proofs.first.first_of_statements.Given as goal

-- what is first among the statements that are left is first among all
abbrev pub invariant-loop-i : goal.invariant-loop-i
invariant-loop-i l = (o : Option StatementName) → FirstIs l.schema l.allow l.request (named_statements l.document (1 + l.i) (drop l.i l.statements)) o → FirstIs l.schema l.allow l.request (named_statements l.document 1 l.statements) o
