-- A number and the greatest point that it has reached stand alike to each bound.
use Rattle.std.proofs.Common.{◌≡◌, ◌⊎◌, ℤ, pos, negsuc, ◌+ℤ◌, ◌≤ℤ◌, ◌<ℤ◌, true, false, List, [], ◌∷◌, refl, ap, ap₂, inl, inr, subst, rules, arith, lt-ltb}
use Rattle.std.proofs.lemmas.Bool.{cases_lt}
use Rattle.value_theory.proofs.SameTests.{same_tests}
use Rattle.std.specs.List.{flat_map}
use Rattle.std.specs.Prelude.{unsigned_abs}
use Rattle.std.specs.Ordering.{int_eq}
use Rattle.std.proofs.lemmas.Int.{ints}
use Rattle.intervals.specs.declared.compare.Compare.{Compare}
use Rattle.intervals.specs.declared.compare.Compare.TheVariants.{Equal, Less, LessOrEqual, Greater, GreaterOrEqual}
use Rattle.intervals.specs.Compare.{stands_to}
use Rattle.intervals.specs.Scaled.{IsScaled, size_limit}
use Rattle.value_theory.specs.declared.kinds.PlainCond.{PlainCond}
use Rattle.value_theory.specs.declared.kinds.PlainCond.TheVariants.{Compares, Inside, Flag, Equals}
use Rattle.value_theory.specs.declared.kinds.PlainValue.TheVariants as Value
use Rattle.value_theory.specs.Solutions.{answers}
use Rattle.value_theory.specs.Samples.{samples_at, number_at}
use Rattle.value_theory.proofs.Floors.{In, In-left, In-right, AllReached, IsFloor, floor}

int_split : (a b : ℤ) → (a ≤ℤ b) ⊎ (b <ℤ a)
int_split (pos a) (pos b) = elim (cases_lt b a) [ inl l ↦ inr (omega (arith, ints)) | inr m ↦ inl (omega (arith, ints)) ]
int_split (pos a) (negsuc b) = inr (omega (arith, ints))
int_split (negsuc a) (pos b) = inl (omega (arith, ints))
int_split (negsuc a) (negsuc b) = elim (cases_lt a b) [ inl l ↦ inr (omega (arith, ints)) | inr m ↦ inl (omega (arith, ints)) ]

int_cases : (a b : ℤ) → (a ≤ℤ b) ⊎ ((a ≤ℤ b → ⊥) × (b ≤ℤ a))
int_cases a b = elim (int_split a b) [ inl l ↦ inl l | inr m ↦ inr (λ h. omega (arith, ints), omega (arith, ints)) ]

-- the points of conditions on numbers
abbrev pub number_points : List PlainCond → List ℤ
number_points [] = []
number_points (Compares c bound ∷ conds) = bound ∷ (bound +ℤ pos 1) ∷ number_points conds
number_points (Inside block ∷ conds) = number_points conds
number_points (Flag t f ∷ conds) = number_points conds
number_points (Equals bytes ∷ conds) = number_points conds

eq_from : (x y : ℤ) → int_eq x y ≡ true → x ≡ y
eq_from x y h = search rules

to_eq : (x y : ℤ) → x ≡ y → int_eq x y ≡ true
to_eq x y h = search rules

stand_alike : (c : Compare) (b v s : ℤ) → s ≤ℤ v → (b ≤ℤ v → b ≤ℤ s) → ((b +ℤ pos 1) ≤ℤ v → (b +ℤ pos 1) ≤ℤ s) → stands_to c b v ≡ stands_to c b s
stand_alike Equal b v s below at past =
    same_tests _ _
    (λ h. let same = eq_from v b h in let reached : b ≤ℤ s = at (omega (arith, ints)) in to_eq s b (omega (arith, ints)))
    (λ h. let same = eq_from s b h in
    elim (int_split (b +ℤ pos 1) v) [
      | inl more ↦ absurd (let reached = past more in omega (arith, ints))
      | inr most ↦ to_eq v b (omega (arith, ints))
    ])
stand_alike Less b v s below at past = grind (arith, ints)
stand_alike LessOrEqual b v s below at past = grind (arith, ints)
stand_alike Greater b v s below at past = grind (arith, ints)
stand_alike GreaterOrEqual b v s below at past = grind (arith, ints)

pub numbers_alike : (conds : List PlainCond) (v s : ℤ) → s ≤ℤ v → AllReached ◌≤ℤ◌ (number_points conds) s v → answers conds (Value.Number v) ≡ answers conds (Value.Number s)
numbers_alike [] v s below h = refl
numbers_alike (Compares c b ∷ conds) v s below h = ap₂ (λ t ts. t ∷ ts) (stand_alike c b v s below h.0 h.1.0) (numbers_alike conds v s below h.1.1)
numbers_alike (Inside block ∷ conds) v s below h = ap (λ ts. false ∷ ts) (numbers_alike conds v s below h)
numbers_alike (Flag t f ∷ conds) v s below h = ap (λ ts. false ∷ ts) (numbers_alike conds v s below h)
numbers_alike (Equals bytes ∷ conds) v s below h = ap (λ ts. false ∷ ts) (numbers_alike conds v s below h)

-- each point in range is a sample
listed_at : (s : ℤ) → IsScaled s → In (Value.Number s) (number_at s)
listed_at s small = rw (lt-ltb (unsigned_abs s) size_limit small) (inl refl)

listed_after : (s b : ℤ) → IsScaled s → s ≡ b +ℤ pos 1 → In (Value.Number s) (number_at (b +ℤ pos 1))
listed_after s b small e = subst (λ n. In (Value.Number s) (number_at n)) e (listed_at s small)

pub number_listed : (conds : List PlainCond) (s : ℤ) → IsScaled s → In s (number_points conds) → In (Value.Number s) (flat_map samples_at conds)
number_listed [] s small m = elim m [ ]
number_listed (Compares c b ∷ conds) s small (inl e) = inl (ap Value.Number e)
number_listed (Compares c b ∷ conds) s small (inr (inl e)) = inr (In-left _ (number_at (b +ℤ pos 1)) _ (listed_after s b small e))
number_listed (Compares c b ∷ conds) s small (inr (inr m)) = inr (In-right _ (number_at (b +ℤ pos 1)) _ (number_listed conds s small m))
number_listed (Inside block ∷ conds) s small m = In-right _ (samples_at (Inside block)) _ (number_listed conds s small m)
number_listed (Flag t f ∷ conds) s small m = number_listed conds s small m
number_listed (Equals bytes ∷ conds) s small m = inr (number_listed conds s small m)

pub number_floor : (lo : ℤ) (ks : List ℤ) (v : ℤ) → lo ≤ℤ v → (s : ℤ) × IsFloor ◌≤ℤ◌ lo ks v s
number_floor lo ks v h = floor ◌≤ℤ◌ (λ a. omega (arith, ints)) (λ a b c h k. omega (arith, ints)) int_cases lo ks v h
