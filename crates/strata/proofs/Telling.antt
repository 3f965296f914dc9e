-- What rows tell of the order.
use Rattle.std.proofs.Common.{◌≡◌, ◌≢◌, ℕ, ◌+◌, ◌<◌, ◌≤◌, List, [], length, get_or, Option, Some, None, Bool, true, false, true≢false, not, nat_eq, nat_lt, IsTrue, ◌↔◌, sym, ap, ◌∙◌, subst, inl, inr, arith}
use Rattle.std.proofs.lemmas.Bool.{and_from, and_parts, cases_Bool, cases_eq, cases_lt}
use Rattle.std.proofs.lemmas.Bool.Decides.{nat_tests}
use Rattle.std.proofs.lemmas.List.Elements.{All-contains}
use Rattle.std.specs.Prelude.{slice_get, unwrap_or}
use Rattle.std.proofs.lemmas.Option.{slice_get_within, get_or_from_slice_get, unwrap_or-slice_get}
use Rattle.policy_model.specs.declared.schema.Schema.{Schema}
use Rattle.policy_model.specs.declared.test.Slot.{Slot}
use Rattle.strata.specs.declared.predicate.Predicate.{Predicate}
use Rattle.strata.specs.declared.rows.Row.{Row}
use Rattle.strata.specs.declared.stratum.Strata.{Strata}
use Rattle.strata.specs.declared.stratum.Stratum.{Stratum}
use Rattle.strata.specs.Covers.{AreMaximalBelow, IsBelowAt, OrderIsDecided, IsMaximalBelow, IsStrictlyBelow, predicate_at}
use Rattle.strata.specs.Rows.{AreListed, AreMaximalByRows, IsNothingAmong, IsNothingBetween, IsBelowByRows, IsMaximalByRows, RowsDecideOrder, DecidesBelow, empty_row, below_by_rows, between_by_rows, strictly_by_rows}
use Rattle.strata.specs.Strata.{AnswersOrderIn, AnswersOrderOf, IsBelowIn, IsOrder, IsStratum}
use Rattle.strata.proofs.Answering.{below-says, says-below}
use Rattle.strata.proofs.Ordering.{below-self}

eq-true : (a b : ℕ) → a ≡ b → nat_eq a b ≡ true
eq-true a b h = grind (arith, nat_tests)

eq-false : (a b : ℕ) → a ≢ b → nat_eq a b ≡ false
eq-false a b h = grind (arith, nat_tests)

lt-true : (a b : ℕ) → a < b → nat_lt a b ≡ true
lt-true a b h = grind (arith, nat_tests)

lt-false : (a b : ℕ) → b ≤ a → nat_lt a b ≡ false
lt-false a b h = grind (arith, nat_tests)

-- the answers of the rows are right
tells-below : (schema : Schema) (s : Slot) (kept : List Predicate) (rows : List Row) (j i : ℕ) → RowsDecideOrder schema s kept rows → j < length rows → i < length rows → DecidesBelow schema s (predicate_at kept j) (predicate_at kept i) (below_by_rows rows j i)
tells-below schema s kept rows j i h wj wi = elim (cases_eq j i) [
  | inl same ↦ rw (eq-true j i same) (subst (λ (m : ℕ). IsBelowAt schema s kept j m) same (below-self schema s (predicate_at kept j)))
  | inr differ ↦ elim (cases_lt j i) [
    | inl less ↦ rw (eq-false j i differ, lt-true j i less) ((h.each i empty_row wi).above.each j less)
    | inr more ↦ rw (eq-false j i differ, lt-false j i more) ((h.each j empty_row wj).below.each i (omega arith))
  ]
]

tells-strictly : (schema : Schema) (s : Slot) (kept : List Predicate) (rows : List Row) (j i : ℕ) → RowsDecideOrder schema s kept rows → j < length rows → i < length rows → strictly_by_rows rows j i ≡ true → IsStrictlyBelow schema s kept j i
tells-strictly schema s kept rows j i h wj wi e =
    let both = and_parts (not (nat_eq j i)) (below_by_rows rows j i) e in
    record {
      lower = omega (arith, h.count);
      upper = omega (arith, h.count);
      differ = λ same. let off : not (nat_eq j i) ≡ false = ap not (eq-true j i same) in absurd (cc);
      below = says-below schema s (predicate_at kept j) (predicate_at kept i) (below_by_rows rows j i) (tells-below schema s kept rows j i h wj wi) both.1;
    }

strictly-tells : (schema : Schema) (s : Slot) (kept : List Predicate) (rows : List Row) (j i : ℕ) → RowsDecideOrder schema s kept rows → IsStrictlyBelow schema s kept j i → strictly_by_rows rows j i ≡ true
strictly-tells schema s kept rows j i h below =
    and_from (not (nat_eq j i)) (below_by_rows rows j i) (ap not (eq-false j i below.differ)) (below-says schema s (predicate_at kept j) (predicate_at kept i) (below_by_rows rows j i) (tells-below schema s kept rows j i h (omega (arith, h.count, below.lower)) (omega (arith, h.count, below.upper))) below.below)

-- what the rows tell of those that are maximal strictly below is right
told-maximal : (schema : Schema) (s : Slot) (kept : List Predicate) (rows : List Row) (j i : ℕ) → RowsDecideOrder schema s kept rows → IsMaximalByRows rows i j → IsMaximalBelow schema s kept j i
told-maximal schema s kept rows j i h told = record {
  strictly = tells-strictly schema s kept rows j i h told.lower told.upper told.strictly;
  maximal = λ k low high.
      let both : between_by_rows rows j k i ≡ true = and_from (strictly_by_rows rows j k) (strictly_by_rows rows k i) (strictly-tells schema s kept rows j k h low) (strictly-tells schema s kept rows k i h high) in
      true≢false (sym both ∙ told.nothing k (omega (arith, h.count, low.upper)));
}

maximal-told : (schema : Schema) (s : Slot) (kept : List Predicate) (rows : List Row) (j i : ℕ) → RowsDecideOrder schema s kept rows → IsMaximalBelow schema s kept j i → IsMaximalByRows rows i j
maximal-told schema s kept rows j i h maximal =
    let wj : j < length rows = omega (arith, h.count, maximal.strictly.lower) in
    let wi : i < length rows = omega (arith, h.count, maximal.strictly.upper) in
    record {
      lower = wj;
      upper = wi;
      strictly = strictly-tells schema s kept rows j i h maximal.strictly;
      nothing = λ k wk. elim (cases_Bool (between_by_rows rows j k i)) [
        | inl on ↦
            let both = and_parts (strictly_by_rows rows j k) (strictly_by_rows rows k i) on in
            absurd (maximal.maximal k (tells-strictly schema s kept rows j k h wj wk both.0) (tells-strictly schema s kept rows k i h wk wi both.1))
        | inr off ↦ off
      ];
    }

listed-maximal : (schema : Schema) (s : Slot) (kept : List Predicate) (rows : List Row) (i : ℕ) (numbers : List ℕ) → RowsDecideOrder schema s kept rows → AreListed (IsMaximalByRows rows i) (length rows) numbers → AreMaximalBelow schema s kept i numbers
listed-maximal schema s kept rows i numbers h listed = record {
  rise = listed.rise;
  exact = λ j. (
    λ here. told-maximal schema s kept rows j i h ((listed.exact j (All-contains (λ n. n < length rows) numbers j listed.within here)).0 here),
    λ maximal. let told = maximal-told schema s kept rows j i h maximal in (listed.exact j told.lower).1 told,
  );
}

told-decided : (schema : Schema) (s : Slot) (kept : List Predicate) (rows : List Row) → RowsDecideOrder schema s kept rows → OrderIsDecided schema s kept
told-decided schema s kept rows h j i wj wi =
    let says = tells-below schema s kept rows j i h (omega (arith, h.count)) (omega (arith, h.count)) in
    elim (cases_Bool (below_by_rows rows j i)) [
      | inl on ↦ inl (subst (λ (b : Bool). DecidesBelow schema s (predicate_at kept j) (predicate_at kept i) b) on says)
      | inr off ↦ inr (subst (λ (b : Bool). DecidesBelow schema s (predicate_at kept j) (predicate_at kept i) b) off says)
    ]

-- the lists that the rows tell are the order
pub told-order : (schema : Schema) (s : Slot) (kept : List Predicate) (rows : List Row) (lists : List (List ℕ)) → RowsDecideOrder schema s kept rows → AreMaximalByRows rows (length rows) lists → IsOrder schema s kept lists
told-order schema s kept rows lists h told = record {
  count = told.count ∙ h.count;
  each = λ i numbers at.
      let within : i < length lists = slice_get_within lists i numbers at in
      let here : get_or lists i [] ≡ numbers = get_or_from_slice_get lists i numbers [] at in
      subst (λ (ns : List ℕ). AreMaximalBelow schema s kept i ns) here (listed-maximal schema s kept rows i (get_or lists i []) h (told.each i [] (omega (arith, told.count))));
  decided = told-decided schema s kept rows h;
}

-- ---- the order that is asked of

-- a number that isn't there is answered no
pub answer-none : (answers : List Bool) (n : ℕ) → slice_get answers n ≡ None → false ≡ get_or answers n false
answer-none answers n none = ap (λ (o : Option Bool). unwrap_or o false) (sym none) ∙ unwrap_or-slice_get answers n false

-- what the rows of a stratum tell is its order
pub order-of : (x : Stratum) (rows : List Row) (j i : ℕ) (b : Bool) → rows ≡ x.rows → IsTrue b ↔ IsBelowByRows rows j i → AnswersOrderOf x j i b
order-of x rows j i b same told schema tests is = (
  λ on.
      let h = subst (λ (rs : List Row). IsBelowByRows rs j i) same (told.0 on) in
      record {
        lower = omega (arith, is.rows_decide.count, h.lower);
        upper = omega (arith, is.rows_decide.count, h.upper);
        below = says-below schema x.slot (predicate_at x.predicates j) (predicate_at x.predicates i) (below_by_rows x.rows j i) (tells-below schema x.slot x.predicates x.rows j i is.rows_decide h.lower h.upper) h.below;
      },
  λ h.
      let wj : j < length x.rows = omega (arith, is.rows_decide.count, h.lower) in
      let wi : i < length x.rows = omega (arith, is.rows_decide.count, h.upper) in
      told.1 (subst (λ (rs : List Row). IsBelowByRows rs j i) (sym same) (record {
        lower = wj;
        upper = wi;
        below = below-says schema x.slot (predicate_at x.predicates j) (predicate_at x.predicates i) (below_by_rows x.rows j i) (tells-below schema x.slot x.predicates x.rows j i is.rows_decide wj wi) h.below;
      })),
)

-- and so is what the stratum of a dimension answers
pub order-in : (strata : Strata) (d j i : ℕ) (x : Stratum) (b : Bool) → slice_get strata.dimensions d ≡ Some x → AnswersOrderOf x j i b → AnswersOrderIn strata d j i b
order-in strata d j i x b at answers schema tests each =
    let within : d < length strata.dimensions = slice_get_within strata.dimensions d x at in
    let is : IsStratum schema tests x = subst (IsStratum schema tests) (get_or_from_slice_get strata.dimensions d x x at) (each d x within) in
    let told = answers schema tests is in (
      λ on. record { stratum = x; at = at; below = told.0 on },
      λ h. let both : Some h.stratum ≡ Some x = sym h.at ∙ at in let same : h.stratum ≡ x = cc in told.1 (subst (λ (y : Stratum). IsBelowIn schema y j i) same h.below),
    )

-- a dimension that isn't there has no order
pub order-nowhere : (strata : Strata) (d j i : ℕ) → slice_get strata.dimensions d ≡ None → AnswersOrderIn strata d j i false
order-nowhere strata d j i none schema tests each = (λ on. absurd (cc), λ h. let both : None ≡ Some h.stratum = sym none ∙ h.at in absurd (cc))

-- ---- none of the numbers so far is between

pub nothing-more : (rows : List Row) (j k i : ℕ) → IsNothingAmong rows k j i → between_by_rows rows j k i ≡ false → IsNothingAmong rows (k + 1) j i
nothing-more rows j k i h off m l = elim (cases_lt m k) [
  | inl before ↦ h m before
  | inr past ↦ let same : m ≡ k = omega arith in rw same off
]

pub nothing-at : (rows : List Row) (j k i : ℕ) → k < length rows → between_by_rows rows j k i ≡ true → IsTrue false ↔ IsNothingBetween rows j i
nothing-at rows j k i within on = (λ e. absurd (cc), λ nothing. absurd (true≢false (sym on ∙ nothing k within)))
