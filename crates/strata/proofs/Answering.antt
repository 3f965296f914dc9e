-- Rows of answers that grow.
use Rattle.std.proofs.Common.{◌≡◌, ℕ, ◌+◌, ◌<◌, ◌≤◌, List, [], ◌∷◌, ◌++◌, length, get_or, Bool, true, false, refl, sym, ap, ◌∙◌, subst, inl, inr, arith}
use Rattle.std.proofs.lemmas.Bool.{cases_lt}
use Rattle.std.proofs.lemmas.List.{get_or_append_left, get_or_push, length_push}
use Rattle.policy_model.specs.declared.schema.Schema.{Schema}
use Rattle.policy_model.specs.declared.test.Slot.{Slot}
use Rattle.strata.specs.declared.predicate.Predicate.{Predicate}
use Rattle.strata.specs.declared.predicate.Predicate.TheVariants.{Every}
use Rattle.strata.specs.declared.rows.Row.{Row}
use Rattle.strata.specs.Below.{IsBelow}
use Rattle.strata.specs.Covers.{predicate_at}
use Rattle.strata.specs.Rows.{AreAnswered, IsRow, RowsDecideOrder, DecidesBelow}
use Rattle.strata.proofs.Ordering.{apart-below}

-- an answer that is true tells that the one is below the other
pub says-below : (schema : Schema) (s : Slot) (p q : Predicate) (b : Bool) → DecidesBelow schema s p q b → b ≡ true → IsBelow schema s p q
says-below schema s p q b says on = subst (λ (a : Bool). DecidesBelow schema s p q a) on says

-- and where it is, the answer is true
pub below-says : (schema : Schema) (s : Slot) (p q : Predicate) (b : Bool) → DecidesBelow schema s p q b → IsBelow schema s p q → b ≡ true
below-says schema s p q true says below = refl
below-says schema s p q false says below = absurd (apart-below schema s p q says below)

pub answered-none : (P : Predicate → Bool → Type 0) (kept : List Predicate) → AreAnswered P kept 0 []
answered-none P kept = record { count = refl; each = λ j l. absurd (omega arith) }

pub answered-push : (P : Predicate → Bool → Type 0) (kept : List Predicate) (n : ℕ) (answers : List Bool) (b : Bool) → AreAnswered P kept n answers → P (predicate_at kept n) b → AreAnswered P kept (n + 1) (answers ++ b ∷ [])
answered-push P kept n answers b h says = record {
  count = length_push answers b ∙ ap (λ m. m + 1) h.count;
  each = λ j l. elim (cases_lt j n) [
    | inl before ↦ subst (λ (a : Bool). P (predicate_at kept j) a) (sym (get_or_append_left answers (b ∷ []) false j (omega (arith, h.count)))) (h.each j before)
    | inr last ↦
        let same : j ≡ n = omega arith in
        let here : get_or (answers ++ b ∷ []) j false ≡ b = get_or_push answers b false j (h.count ∙ sym same) in
        subst (λ (a : Bool). P (predicate_at kept j) a) (sym here) (subst (λ (m : ℕ). P (predicate_at kept m) b) (sym same) says)
  ];
}

-- a longer list has the same predicates at its front
pub at-longer : (kept more : List Predicate) (j : ℕ) → j < length kept → predicate_at (kept ++ more) j ≡ predicate_at kept j
at-longer kept more j l = get_or_append_left kept more Every j l

answered-longer : (P : Predicate → Bool → Type 0) (kept more : List Predicate) (n : ℕ) (answers : List Bool) → n ≤ length kept → AreAnswered P kept n answers → AreAnswered P (kept ++ more) n answers
answered-longer P kept more n answers within h = record {
  count = h.count;
  each = λ j l. subst (λ (p : Predicate). P p (get_or answers j false)) (sym (at-longer kept more j (omega arith))) (h.each j l);
}

row-longer : (schema : Schema) (s : Slot) (kept more : List Predicate) (n : ℕ) (p : Predicate) (row : Row) → n ≤ length kept → IsRow schema s kept n p row → IsRow schema s (kept ++ more) n p row
row-longer schema s kept more n p row within h = record {
  below = answered-longer (λ q b. DecidesBelow schema s p q b) kept more n row.below within h.below;
  above = answered-longer (λ q b. DecidesBelow schema s q p b) kept more n row.above within h.above;
}

pub told-none : (schema : Schema) (s : Slot) → RowsDecideOrder schema s [] []
told-none schema s = record { count = refl; each = λ i d l. absurd (omega arith) }

-- one more predicate with its row
pub told-push : (schema : Schema) (s : Slot) (kept : List Predicate) (rows : List Row) (p : Predicate) (row : Row) → RowsDecideOrder schema s kept rows → IsRow schema s kept (length kept) p row → RowsDecideOrder schema s (kept ++ p ∷ []) (rows ++ row ∷ [])
told-push schema s kept rows p row h last = record {
  count = length_push rows row ∙ (ap (λ m. m + 1) h.count ∙ sym (length_push kept p));
  each = λ i d l. elim (cases_lt i (length rows)) [
    | inl before ↦
        let within : i < length kept = omega (arith, h.count) in
        subst (λ (x : Row). IsRow schema s (kept ++ p ∷ []) i (predicate_at (kept ++ p ∷ []) i) x) (sym (get_or_append_left rows (row ∷ []) d i before))
        (subst (λ (q : Predicate). IsRow schema s (kept ++ p ∷ []) i q (get_or rows i d)) (sym (at-longer kept (p ∷ []) i within))
        (row-longer schema s kept (p ∷ []) i (predicate_at kept i) (get_or rows i d) (omega arith) (h.each i d before)))
    | inr past ↦
        let same : length rows ≡ i = omega (arith, length_push rows row) in
        let end : length kept ≡ i = sym h.count ∙ same in
        subst (λ (x : Row). IsRow schema s (kept ++ p ∷ []) i (predicate_at (kept ++ p ∷ []) i) x) (sym (get_or_push rows row d i same))
        (subst (λ (q : Predicate). IsRow schema s (kept ++ p ∷ []) i q row) (sym (get_or_push kept p Every i end))
        (subst (λ (m : ℕ). IsRow schema s (kept ++ p ∷ []) m p row) end (row-longer schema s kept (p ∷ []) (length kept) p row (omega arith) last)))
  ];
}
