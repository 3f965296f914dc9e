use Rattle.std.proofs.Common.{◌≡◌, ◌++◌, drop}
use Rattle.set_questions.specs.Removal.{without_item}
use Rattle.set_questions.proofs.removal.statements_without.Given as goal

-- what is kept, and what is left of the other statements, is the whole
abbrev pub invariant-loop-statement : goal.invariant-loop-statement
invariant-loop-statement l = l.kept ++ without_item l.left (drop l.statement-index l.statements) ≡ without_item l.number l.statements
