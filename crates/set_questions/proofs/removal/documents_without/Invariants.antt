use Rattle.std.proofs.Common.{◌≡◌, ◌++◌, drop}
use Rattle.set_questions.specs.Removal.{documents_without}
use Rattle.set_questions.proofs.removal.documents_without.Given as goal

-- what is kept, and what is left of the other documents, is the whole
abbrev pub invariant-loop-one : goal.invariant-loop-one
invariant-loop-one l = l.kept ++ documents_without l.left l.statement (drop l.one-index l.documents) ≡ documents_without l.document l.statement l.documents
