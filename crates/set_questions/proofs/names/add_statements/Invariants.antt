use Rattle.std.proofs.Common.{◌≡◌, ◌++◌, ◌+◌, drop}
use Rattle.set_questions.specs.Requirements.{names_with}
use Rattle.policy_model.specs.StatementNames.{named_statements}
use Rattle.set_questions.proofs.names.add_statements.Given as goal

-- the names that are there, and those of the statements that are left, are all
abbrev pub invariant-loop-i : goal.invariant-loop-i
invariant-loop-i l = l.names ++ names_with l.effect (named_statements l.document (1 + l.i) (drop l.i l.statements)) ≡ l.fn.names ++ names_with l.effect (named_statements l.document 1 l.statements)
