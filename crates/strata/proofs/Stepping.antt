-- Steps of the strict order of the predicates that are kept: each two in order are joined by steps to what is maximal strictly below.
use Rattle.std.proofs.Common.{◌≡◌, ℕ, zero, suc, ◌<◌, ◌≤◌, List, length, refl, sym, subst, inl, inr, ◌⊎◌, arith}
use Rattle.std.proofs.lemmas.Bool.{cases_lt, cases_eq}
use Rattle.policy_model.specs.declared.schema.Schema.{Schema}
use Rattle.policy_model.specs.declared.test.Slot.{Slot}
use Rattle.strata.specs.declared.predicate.Predicate.{Predicate}
use Rattle.strata.specs.Below.{AreKeptAmong}
use Rattle.strata.specs.Covers.{OrderIsDecided, IsMaximalBelow, IsStrictlyBelow, predicate_at}
use Rattle.strata.proofs.Ordering.{apart-below, strictly-through}

module _ (schema : Schema) (s : Slot) (names kept : List Predicate) (are : AreKeptAmong schema s names kept) (decided : OrderIsDecided schema s kept) where
  -- whether one number is strictly below another
  pub strictly-decided : (i j : ℕ) → i < length kept → j < length kept → IsStrictlyBelow schema s kept i j ⊎ (IsStrictlyBelow schema s kept i j → ⊥)
  strictly-decided i j wi wj = elim (cases_eq i j) [
    | inl same ↦ inr (λ h. h.differ same)
    | inr differ ↦ elim (decided i j wi wj) [
      | inl below ↦ inl (record { lower = wi; upper = wj; differ = differ; below = below })
      | inr apart ↦ inr (λ h. apart-below schema s (predicate_at kept i) (predicate_at kept j) apart h.below)
    ]
  ]

  -- whether a number is strictly between two others
  between-decided : (i k j : ℕ) → i < length kept → k < length kept → j < length kept → (IsStrictlyBelow schema s kept i k × IsStrictlyBelow schema s kept k j) ⊎ (IsStrictlyBelow schema s kept i k → IsStrictlyBelow schema s kept k j → ⊥)
  between-decided i k j wi wk wj = elim (strictly-decided i k wi wk) [
    | inr not ↦ inr (λ x y. not x)
    | inl low ↦ elim (strictly-decided k j wk wj) [
      | inr not ↦ inr (λ x y. not y)
      | inl high ↦ inl (low, high)
    ]
  ]

  through : (i j k : ℕ) → IsStrictlyBelow schema s kept i j → IsStrictlyBelow schema s kept j k → IsStrictlyBelow schema s kept i k
  through i j k first second = strictly-through schema s names kept i j k are first second

  -- a number at or above i and strictly below j, with none of the first b numbers between it and j
  record Climbed (i j b : ℕ) : Type 0 where
    number : ℕ
    above : (i ≡ number) ⊎ IsStrictlyBelow schema s kept i number
    below : IsStrictlyBelow schema s kept number j
    none : (k : ℕ) → k < b → IsStrictlyBelow schema s kept number k → IsStrictlyBelow schema s kept k j → ⊥

  climb : (i j b : ℕ) → b ≤ length kept → IsStrictlyBelow schema s kept i j → Climbed i j b
  climb i j zero w h = record { number = i; above = inl refl; below = h; none = λ k l. absurd (omega arith) }
  climb i j (suc b) w h = by (climb i j b (omega arith) h)
    where
      higher : (c : Climbed i j b) → IsStrictlyBelow schema s kept c.number b → IsStrictlyBelow schema s kept b j → Climbed i j (suc b)
      higher c low high = record {
        number = b;
        above = inr (elim c.above [ inl same ↦ subst (λ (n : ℕ). IsStrictlyBelow schema s kept n b) (sym same) low | inr above ↦ through i c.number b above low ]);
        below = high;
        none = λ k l x y. elim (cases_lt k b) [
          | inl less ↦ c.none k less (through c.number b k low x) y
          | inr most ↦ x.differ (omega arith)
        ];
      }

      by : Climbed i j b → Climbed i j (suc b)
      by c = elim (between-decided c.number b j c.below.lower (omega arith) c.below.upper) [
        | inl between ↦ higher c between.0 between.1
        | inr not ↦ record {
          number = c.number;
          above = c.above;
          below = c.below;
          none = λ k l x y. elim (cases_lt k b) [
            | inl less ↦ c.none k less x y
            | inr most ↦ let same : k ≡ b = omega arith in not (subst (λ (n : ℕ). IsStrictlyBelow schema s kept c.number n) same x) (subst (λ (n : ℕ). IsStrictlyBelow schema s kept n j) same y)
          ];
        }
      ]

  -- where i is strictly below j, some number maximal strictly below j is i or has i strictly below it
  pub last-step : (i j : ℕ) → IsStrictlyBelow schema s kept i j → (m : ℕ) × IsMaximalBelow schema s kept m j × ((i ≡ m) ⊎ IsStrictlyBelow schema s kept i m)
  last-step i j h =
      let c = climb i j (length kept) (omega arith) h in
      (c.number, record { strictly = c.below; maximal = λ k x y. c.none k x.upper x y }, c.above)

  -- a number strictly above i and at or below j, with none of the first b numbers between i and it
  record Lowered (i j b : ℕ) : Type 0 where
    number : ℕ
    below : (number ≡ j) ⊎ IsStrictlyBelow schema s kept number j
    above : IsStrictlyBelow schema s kept i number
    none : (k : ℕ) → k < b → IsStrictlyBelow schema s kept i k → IsStrictlyBelow schema s kept k number → ⊥

  lower : (i j b : ℕ) → b ≤ length kept → IsStrictlyBelow schema s kept i j → Lowered i j b
  lower i j zero w h = record { number = j; below = inl refl; above = h; none = λ k l. absurd (omega arith) }
  lower i j (suc b) w h = by (lower i j b (omega arith) h)
    where
      deeper : (c : Lowered i j b) → IsStrictlyBelow schema s kept i b → IsStrictlyBelow schema s kept b c.number → Lowered i j (suc b)
      deeper c low high = record {
        number = b;
        below = inr (elim c.below [ inl same ↦ subst (λ (n : ℕ). IsStrictlyBelow schema s kept b n) same high | inr below ↦ through b c.number j high below ]);
        above = low;
        none = λ k l x y. elim (cases_lt k b) [
          | inl less ↦ c.none k less x (through k b c.number y high)
          | inr most ↦ y.differ (omega arith)
        ];
      }

      by : Lowered i j b → Lowered i j (suc b)
      by c = elim (between-decided i b c.number c.above.lower (omega arith) c.above.upper) [
        | inl between ↦ deeper c between.0 between.1
        | inr not ↦ record {
          number = c.number;
          below = c.below;
          above = c.above;
          none = λ k l x y. elim (cases_lt k b) [
            | inl less ↦ c.none k less x y
            | inr most ↦ let same : k ≡ b = omega arith in not (subst (λ (n : ℕ). IsStrictlyBelow schema s kept i n) same x) (subst (λ (n : ℕ). IsStrictlyBelow schema s kept n c.number) same y)
          ];
        }
      ]

  -- where i is strictly below j, i is maximal strictly below some number that is j or strictly below j
  pub first-step : (i j : ℕ) → IsStrictlyBelow schema s kept i j → (m : ℕ) × IsMaximalBelow schema s kept i m × ((m ≡ j) ⊎ IsStrictlyBelow schema s kept m j)
  first-step i j h =
      let c = lower i j (length kept) (omega arith) h in
      (c.number, record { strictly = c.above; maximal = λ k x y. c.none k y.lower x y }, c.below)
