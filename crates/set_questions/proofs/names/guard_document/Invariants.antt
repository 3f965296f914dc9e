use Rattle.std.proofs.Common.{◌≡◌, drop, slice_get}
use Rattle.set_questions.specs.SetDocuments.{guard_documents}
use Rattle.set_questions.proofs.names.guard_document.Given as goal

-- the document is that of the guards that are left at what is left of the index
abbrev pub invariant-loop-guard : goal.invariant-loop-guard
invariant-loop-guard l = slice_get (guard_documents l.guards) l.index ≡ slice_get (guard_documents (drop l.guard-index l.guards)) l.left
