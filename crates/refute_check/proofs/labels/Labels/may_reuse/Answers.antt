use Rattle.std.proofs.Common.{◌≡◌, ◌↔◌, ◌∙◌, ℕ, List, Option, Some, None, IsTrue, All, get_or, slice_get, sym, subst}
use Rattle.formula_tree.specs.Answers.{Answers}
use Rattle.refute_check.specs.Labels.{IsAnswered}
use Rattle.refute_check.proofs.Labelling.{reuse}
use Rattle.refute_check.proofs.labels.Labels.may_reuse.Goals as goal

pub returns-in-Some-get : goal.returns-in-Some-get
returns-in-Some-get c =
    let ended = c.self.inside.ended in
    let label : ℕ × Answers = c.in-Some-get.label.now in
    let is = subst (λ (l : List (Option ℕ)). get_or l c.args.number None ≡ Some c.in-Some.index) c.as_slice.ensures.value (sym c.index_of.ensures ∙ c.in-Some.is) in
    let at : slice_get ended c.in-Some.index ≡ Some label = sym c.in-Some-get.ensures in
    let own : c.as_slice-in-Some-get.result.now ≡ label.1 = c.as_slice-in-Some-get.ensures in
    let says = subst (λ (l : Answers). IsTrue c.are_answered.result ↔ All (IsAnswered c.args.path.now) l) own c.are_answered.ensures in
    rw (← c.self.view_is) (reuse ended c.self.inside.indices.items c.self.invariant c.args.self.now.begun c.args.number c.args.path.now c.in-Some.index label c.are_answered.result is at says)
