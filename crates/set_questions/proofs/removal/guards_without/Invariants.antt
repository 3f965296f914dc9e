use Rattle.std.proofs.Common.{◌≡◌, ◌++◌, drop}
use Rattle.set_questions.specs.Removal.{guards_without}
use Rattle.set_questions.proofs.removal.guards_without.Given as goal

-- what is kept, and what is left of the other guards, is the whole
abbrev pub invariant-loop-guard : goal.invariant-loop-guard
invariant-loop-guard l = l.kept ++ guards_without l.left l.statement (drop l.guard-index l.guards) ≡ guards_without l.document l.statement l.guards
