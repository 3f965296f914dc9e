use Rattle.std.proofs.Common.{◌≡◌, ◌-◌, Option, Some, slice_get, ap, sym, ◌∙◌}
use Rattle.std.specs.Borrow.{Bor}
use Rattle.std.specs.Option.{option_copied}
use Rattle.policy_model.specs.declared.set.Document.{Document}
use Rattle.policy_model.specs.declared.set.Statement.{Statement}
use Rattle.set_questions.specs.SetDocuments.{set_documents}
use Rattle.set_questions.proofs.Placing.{document-there, statement-is, numbers-from-one, statement-there}
use Rattle.set_questions.proofs.names.named_statement.Goals as goal

pub overflow_sub-name : goal.overflow_sub-name
overflow_sub-name c = (numbers-from-one c.args.set.now c.args.name c.requires).0

pub unreachable-requires : goal.unreachable-requires
unreachable-requires c = document-there c.args.set.now c.args.name c.requires (sym c.document_at.ensures ∙ ap (λ (o : Option (Bor Document)). option_copied o) c.in_default.is)

pub overflow_sub-name-2 : goal.overflow_sub-name-2
overflow_sub-name-2 c = (numbers-from-one c.args.set.now c.args.name c.requires).1

pub unreachable-requires-in-None : goal.unreachable-requires-in-None
unreachable-requires-in-None c =
    let found : slice_get (set_documents c.args.set.now) (c.args.name.document - 1) ≡ Some c.in-Some.document.now = sym c.document_at.ensures ∙ ap (λ (o : Option (Bor Document)). option_copied o) c.in-Some.is in
    statement-there c.args.set.now c.args.name c.in-Some.document.now c.requires found (sym c.get.ensures ∙ ap (λ (o : Option (Bor Statement)). option_copied o) c.in-None.is)

pub returns : goal.returns
returns c =
    let found : slice_get (set_documents c.args.set.now) (c.args.name.document - 1) ≡ Some c.in-Some.document.now = sym c.document_at.ensures ∙ ap (λ (o : Option (Bor Document)). option_copied o) c.in-Some.is in
    let here : slice_get c.in-Some.document.now.statements (c.args.name.statement - 1) ≡ Some c.in-Some-get.statement.now = sym c.get.ensures ∙ ap (λ (o : Option (Bor Statement)). option_copied o) c.in-Some-get.is in
    statement-is c.args.set.now c.args.name c.in-Some.document.now c.in-Some-get.statement.now found here
