-- The numbers of labels by their lines: how many there are, and that they differ.
use Rattle.std.proofs.Common.{◌≡◌, ◌≢◌, ◌⊎◌, ◌<◌, ◌≤◌, ◌+◌, ◌-◌, ℕ, zero, suc, List, [], ◌∷◌, ◌++◌, length, get_or, refl, sym, ◌∙◌, subst, inl, inr, arith}
use Rattle.std.proofs.lemmas.List.{get_or-append-add, get_or_append_left, length-append}
use Rattle.std.proofs.lemmas.Bool.{cases_lt}
use Rattle.refute_check.specs.Proofs.{Proof, by_clauses, by_slot, by_value, label, labels, reuse, split}
use Rattle.search_parts.specs.Renaming.{AreNames, line_names}

cases_below : (i k : ℕ) → (i < k) ⊎ ((j : ℕ) × (i ≡ k + j))
cases_below i k = elim (cases_lt i k) [ inl h ↦ inl h | inr h ↦ inr (i - k, omega (arith, h)) ]

pub names-none : (b : ℕ) → AreNames b b 0 []
names-none b = record { count_is = refl; above = λ i h. absurd (omega (arith, h)); below = λ i h. absurd (omega (arith, h)); differ = λ i j h. absurd (omega (arith, h)) }

names-one : (b : ℕ) → AreNames b (b + 1) 1 (b ∷ [])
names-one b = record {
  count_is = refl;
  above = λ i h. at-first i h (λ (x : ℕ). b ≤ x) (omega arith);
  below = λ i h. at-first i h (λ (x : ℕ). x < b + 1) (omega arith);
  differ = λ i j h g e. omega (arith, h, g);
}
  where
    at-first : (i : ℕ) → i < 1 → (P : ℕ → Type 0) → P b → P (get_or (b ∷ []) i 0)
    at-first zero h P p = p
    at-first (suc i) h P p = absurd (omega (arith, h))

-- more numbers than were asked for aren't
pub wider : (from low end high count : ℕ) (names : List ℕ) → low ≤ from → end ≤ high → AreNames from end count names → AreNames low high count names
wider from low end high count names down up are = record {
  count_is = are.count_is;
  above = λ i h. omega (arith, are.above i h, down);
  below = λ i h. omega (arith, are.below i h, up);
  differ = are.differ;
}

-- two lists of numbers, none of them in both
module _ (from end k m : ℕ) (xs ys : List ℕ) (first : AreNames from end k xs) (second : AreNames from end m ys) (apart : (i j : ℕ) → i < k → j < m → get_or xs i 0 ≢ get_or ys j 0) where
  in-first : (i : ℕ) → i < k → get_or (xs ++ ys) i 0 ≡ get_or xs i 0
  in-first i h = get_or_append_left xs ys 0 i (omega (arith, h, first.count_is))

  in-second : (i j : ℕ) → i ≡ k + j → get_or (xs ++ ys) i 0 ≡ get_or ys j 0
  in-second i j e =
      let place : length xs + j ≡ i = omega (arith, first.count_is, e) in
      subst (λ (n : ℕ). get_or (xs ++ ys) n 0 ≡ get_or ys j 0) place (get_or-append-add xs ys j 0)

  each : (P : ℕ → Type 0) → ((i : ℕ) → i < k → P (get_or xs i 0)) → ((i : ℕ) → i < m → P (get_or ys i 0)) → (i : ℕ) → i < k + m → P (get_or (xs ++ ys) i 0)
  each P one other i h =
      elim (cases_below i k) [
        | inl small ↦ subst P (sym (in-first i small)) (one i small)
        | inr (j, e) ↦ subst P (sym (in-second i j e)) (other j (omega (arith, h, e)))
      ]

  differ-both : (i j : ℕ) → i < k + m → j < k + m → get_or (xs ++ ys) i 0 ≡ get_or (xs ++ ys) j 0 → i ≡ j
  differ-both i j h g same =
      elim (cases_below i k) [
        | inl small ↦
            elim (cases_below j k) [
              | inl little ↦ first.differ i j small little (sym (in-first i small) ∙ same ∙ in-first j little)
              | inr (b, e) ↦ absurd (apart i b small (omega (arith, g, e)) (sym (in-first i small) ∙ same ∙ in-second j b e))
            ]
        | inr (a, e) ↦
            elim (cases_below j k) [
              | inl little ↦ absurd (apart j a little (omega (arith, h, e)) (sym (in-first j little) ∙ sym same ∙ in-second i a e))
              | inr (b, d) ↦ let equal = second.differ a b (omega (arith, h, e)) (omega (arith, g, d)) (sym (in-second i a e) ∙ same ∙ in-second j b d) in omega (arith, equal, e, d)
            ]
      ]

  names-both : AreNames from end (k + m) (xs ++ ys)
  names-both = record {
    count_is = omega (arith, length-append xs ys, first.count_is, second.count_is);
    above = each (λ (x : ℕ). from ≤ x) first.above second.above;
    below = each (λ (x : ℕ). x < end) first.below second.below;
    differ = differ-both;
  }

-- one range of numbers behind another
pub names-behind : (from middle end k m : ℕ) (xs ys : List ℕ) → from ≤ middle → middle ≤ end → AreNames from middle k xs → AreNames middle end m ys → AreNames from end (k + m) (xs ++ ys)
names-behind from middle end k m xs ys low high first second =
    names-both from end k m xs ys (wider from from middle end k xs (omega arith) high first) (wider middle from end end m ys low (omega arith) second)
    (λ i j h g same. omega (arith, first.below i h, second.above j g, same))

-- the numbers by lines of a part's labels: so many, each from the first line's on, and no two alike
pub line_names-are : (begun : ℕ) (p : Proof) → AreNames begun (begun + labels p) (labels p) (line_names begun p)
line_names-are begun (split n y z) =
    let second = line_names-are (begun + labels y) z in
    let last : (begun + labels y) + labels z ≡ begun + (labels y + labels z) = omega arith in
    names-behind begun (begun + labels y) (begun + (labels y + labels z)) (labels y) (labels z) (line_names begun y) (line_names (begun + labels y) z) (omega arith) (omega arith)
    (line_names-are begun y) (subst (λ (e : ℕ). AreNames (begun + labels y) e (labels z) (line_names (begun + labels y) z)) last second)
line_names-are begun by_value = subst (λ (e : ℕ). AreNames begun e 0 []) (omega arith) (names-none begun)
line_names-are begun (by_slot core proof) = subst (λ (e : ℕ). AreNames begun e 0 []) (omega arith) (names-none begun)
line_names-are begun (by_clauses hints) = subst (λ (e : ℕ). AreNames begun e 0 []) (omega arith) (names-none begun)
line_names-are begun (label n answers p) =
    let inner = line_names-are (begun + 1) p in
    let first = wider (begun + 1) begun (begun + 1 + labels p) (begun + (labels p + 1)) (labels p) (line_names (begun + 1) p) (omega arith) (omega arith) inner in
    let last = wider begun begun (begun + 1) (begun + (labels p + 1)) 1 (begun ∷ []) (omega arith) (omega arith) (names-one begun) in
    names-both begun (begun + (labels p + 1)) (labels p) 1 (line_names (begun + 1) p) (begun ∷ []) first last
    (λ i j h g same. let only : j ≡ 0 = omega (arith, g) in let at : get_or (begun ∷ []) j 0 ≡ begun = rw only refl in omega (arith, inner.above i h, same, at))
line_names-are begun (reuse n) = subst (λ (e : ℕ). AreNames begun e 0 []) (omega arith) (names-none begun)

pub line_names-length : (begun : ℕ) (p : Proof) → length (line_names begun p) ≡ labels p
line_names-length begun p = (line_names-are begun p).count_is
