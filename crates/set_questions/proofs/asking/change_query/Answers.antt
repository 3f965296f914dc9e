use Rattle.std.proofs.Common.{Result, Ok, Err, ap, subst, ◌∙◌}
use Rattle.policy_compile.specs.declared.outcome.Query.{Query}
use Rattle.policy_compile.specs.declared.outcome.QueryFault.{QueryFault}
use Rattle.policy_compile.specs.Plans.{Plan}
use Rattle.policy_compile.specs.Queries.{IsQuery, IsQueryOf}
use Rattle.set_questions.proofs.Using.{directed-change, directed-within, directed_plan}
use Rattle.set_questions.proofs.asking.change_query.Goals as goal

pub returns-in-Ok : goal.returns-in-Ok
returns-in-Ok c =
    let schema = c.args.schema.now in
    let set = c.args.set.now in
    let plan = directed_plan c.is_allow.result schema set c.in_ok-part.part in
    let is : IsQueryOf plan (Ok c.in-Ok.query) = subst (λ (r : Result Query QueryFault). IsQueryOf plan r) c.in-Ok.is c.directed_query.ensures in
    λ s at. subst (λ (p : Plan). IsQuery p c.in-Ok.query) (directed-change schema set c.args.name s c.in_ok-part.part c.is_allow.result c.in_ok-part.ensures (c.is_allow.ensures s at)) is

pub unreachable-requires : goal.unreachable-requires
unreachable-requires c =
    let schema = c.args.schema.now in
    let set = c.args.set.now in
    let plan = directed_plan c.is_allow.result schema set c.in_ok-part.part in
    let within = directed-within schema set c.args.name c.in_ok-part.part c.is_allow.result c.requires.named c.in_ok-part.ensures c.is_allow.ensures c.requires.within in
    within.tests (subst (λ (r : Result Query QueryFault). IsQueryOf plan r) (c.in-Err-TooManyTests.is ∙ ap (λ (f : QueryFault). Err f) c.in-Err-TooManyTests.field-0-is) c.directed_query.ensures)

pub unreachable-requires-in-Err-TooManyPieces : goal.unreachable-requires-in-Err-TooManyPieces
unreachable-requires-in-Err-TooManyPieces c =
    let schema = c.args.schema.now in
    let set = c.args.set.now in
    let plan = directed_plan c.is_allow.result schema set c.in_ok-part.part in
    let within = directed-within schema set c.args.name c.in_ok-part.part c.is_allow.result c.requires.named c.in_ok-part.ensures c.is_allow.ensures c.requires.within in
    within.pieces (subst (λ (r : Result Query QueryFault). IsQueryOf plan r) (c.in-Err-TooManyPieces.is ∙ ap (λ (f : QueryFault). Err f) c.in-Err-TooManyPieces.field-0-is) c.directed_query.ensures)
