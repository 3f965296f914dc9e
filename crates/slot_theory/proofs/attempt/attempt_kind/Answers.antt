use Rattle.std.proofs.Common.{◌∙◌, ℕ, List, Any, IsTrue, false, sym, subst}
use Rattle.pattern_automata.specs.declared.outcome.Product.TheVariants.{Found, TooMany}
use Rattle.slot_theory.specs.declared.outcome.SlotValue.TheVariants.{Principal}
use Rattle.slot_theory.specs.Cores.{IsContradicted}
use Rattle.slot_theory.specs.Question.{AreWanted}
use Rattle.slot_theory.proofs.Products.{id-new, id-permitted, kind-wanted, kind-wider, product-at, tried-attempt}
use Rattle.slot_theory.proofs.attempt.attempt_kind.Goals as goal

pub solve-requires : goal.solve-requires
solve-requires c = record {
  wanted = subst (λ (xs : List ℕ). AreWanted c.args.question.now xs) (sym (c.as_slice.ensures ∙ c.in_ok-open.ensures)) (kind-wanted c.args.question.now c.args.core.now c.args.kind c.requires.slot c.requires.core);
}

pub returns-in-TooMany : goal.returns-in-TooMany
returns-in-TooMany c =
    let q = c.args.question.now in
    kind-wider q c.args.core.now c.args.kind c.requires.slot c.requires.core q.states c.in-TooMany.texts
    (product-at q.tests.now q.path.now q.states _ _ _ _ _ (TooMany c.in-TooMany.texts) (c.as_slice.ensures ∙ c.in_ok-open.ensures) c.shape_of-shape.ensures c.in-TooMany.is c.in_ok-closed.ensures)

pub returns : goal.returns
returns c =
    let q = c.args.question.now in
    let met = product-at q.tests.now q.path.now q.states _ _ _ _ _ (Found c.in-Found.id) (c.as_slice.ensures ∙ c.in_ok-open.ensures) c.shape_of-shape.ensures c.in-Found.is c.in_ok-closed.ensures in
    let none : Any (IsContradicted q.tests.now q.path.now c.args.kind) c.args.core.now → ⊥ = λ some. let said : IsTrue false = c.if-is_contradicted.ensures.1 some in absurd (cc) in
    tried-attempt q c.args.core.now (Principal c.args.kind c.in-Found.id) c.tried.result (id-permitted q c.args.core.now c.args.kind c.requires.slot c.requires.core c.in-Found.id met)
    (λ n. id-new q c.args.core.now c.args.kind c.requires.slot c.requires.core c.in-Found.id n none met.0) c.tried.ensures
