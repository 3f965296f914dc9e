-- Values that slots were found to have.
use Rattle.std.proofs.Common.{◌≡◌, ◌≢◌, ◌<◌, ◌++◌, ◌∷◌, [], length, get_or, All, AllPairs, sym, ap, ◌∙◌, inl, inr, arith}
use Rattle.std.proofs.lemmas.List.{length_push, get_or_append_left, get_or_push}
use Rattle.std.proofs.lemmas.List.Elements.{All-push}
use Rattle.formula_tree.specs.Answers.{Answers}
use Rattle.formula_tree.proofs.Laws.{cases_eq}
use Rattle.policy_model.specs.declared.test.Slot.{Slot}
use Rattle.slot_theory.specs.declared.outcome.SlotValue.{SlotValue}
use Rattle.slot_theory.specs.Cores.{HasTest}
use Rattle.slot_theory.specs.Slots.{IsSlotValue}
use Rattle.clause_learning.specs.declared.asked.Asked.{Asked}
use Rattle.clause_search.specs.Values.{AreFoundValues, SlotPairs}

abbrev Pair : Type 0
Pair = Slot × SlotValue

abbrev Differ : Pair → Pair → Type 0
Differ p q = p.0 ≢ q.0

-- one more value, of another slot than all before
once-push : (values : SlotPairs) (p : Pair) → AllPairs Differ values → All (λ (q : Pair). q.0 ≢ p.0) values → AllPairs Differ (values ++ p ∷ [])
once-push values p once others i j d low within =
    let long = length_push values p in
    let first : get_or (values ++ p ∷ []) i d ≡ get_or values i d = get_or_append_left values (p ∷ []) d i (omega arith) in
    elim (cases_eq j (length values)) [
      | inl last ↦
          let second : get_or (values ++ p ∷ []) j d ≡ p = get_or_push values p d j (sym last) in
          λ e. others i d (omega arith) (ap (λ (q : Pair). q.0) (sym first) ∙ e ∙ ap (λ (q : Pair). q.0) second)
      | inr before ↦
          let inside : j < length values = omega arith in
          let second : get_or (values ++ p ∷ []) j d ≡ get_or values j d = get_or_append_left values (p ∷ []) d j inside in
          λ e. once i j d low inside (ap (λ (q : Pair). q.0) (sym first) ∙ e ∙ ap (λ (q : Pair). q.0) second)
    ]

pub found-more : (a : Asked) (path : Answers) (values : SlotPairs) (s : Slot) (v : SlotValue) → AreFoundValues a path values → All (λ (q : Pair). q.0 ≢ s) values → HasTest a.query.now.tests path s →
    IsSlotValue a.schema.now a.query.now.tests path s v → AreFoundValues a path (values ++ (s, v) ∷ [])
found-more a path values s v are new asked is = record {
  each = All-push (λ (p : Pair). IsSlotValue a.schema.now a.query.now.tests path p.0 p.1) values (s, v) are.each is;
  needed = All-push (λ (p : Pair). HasTest a.query.now.tests path p.0) values (s, v) are.needed asked;
  once = once-push values (s, v) are.once new;
}
