use Rattle.std.proofs.Common.{sym, ◌∙◌, subst}
use Rattle.formula_tree.specs.Answers.{Answers}
use Rattle.search_parts.specs.Needs.{AddsAnswer}
use Rattle.search_parts.proofs.Adding.{adds-new, adds-none, adds-some, ok-to}
use Rattle.search_parts.proofs.Fewer.{not-some}
use Rattle.search_parts.proofs.leaves.add_answer.Goals as goal

pub returns-then-is_answered : goal.returns-then-is_answered
returns-then-is_answered c = adds-some c.args.path.now c.args.test c.args.answers.now (c.is_answered.ensures.0 c.if-is_answered.true)

pub returns-in-Some : goal.returns-in-Some
returns-in-Some c =
    ok-to c.push.result
    (λ new. subst (λ (a : Answers). AddsAnswer c.args.path.now c.args.test c.args.answers.now a) (sym new)
    (adds-new c.args.path.now c.args.test c.args.answers.now c.in-Some.answer (sym c.answer.ensures ∙ c.in-Some.is) (not-some _ c.is_answered.result c.if-is_answered.false c.is_answered.ensures)))
    c.push.ensures.ok

pub returns-in-None : goal.returns-in-None
returns-in-None c =
    adds-none c.args.path.now c.args.test c.args.answers.now (sym c.answer.ensures ∙ c.in-None.is) (not-some _ c.is_answered.result c.if-is_answered.false c.is_answered.ensures)
