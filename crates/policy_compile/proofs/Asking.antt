-- An item is put into a set: it is had already, or it is added at the end.
use Rattle.std.proofs.Common.{◌≡◌, ◌≤◌, ◌<◌, ℕ, zero, suc, List, [], ◌∷◌, ◌++◌, length, get_or, Bool, true, false, true≢false, Some, refl, sym, ap, ◌∙◌, subst, inl, inr, ◌⊎◌, if◌then◌else◌, arith}
use Rattle.std.specs.Prelude.{slice_get, Contains, MatchBool, Result, Ok, Err, IfOk, OnErr}
use Rattle.std.proofs.lemmas.Map.Views.{Contains-from_any}
use Rattle.std.specs.Bool.{Decides}
use Rattle.std.proofs.lemmas.Option.{slice_get_within, get_or_from_slice_get}
use Rattle.std.proofs.lemmas.List.{length-append}
use Rattle.std.proofs.lemmas.List.Folds.{list_any_at}
use Rattle.std.specs.List.{list_any}
use Rattle.indexmap.specs.IndexSet.{insert_key}
use Rattle.policy_model.specs.contracts.test.TestPartialEq.TheImpl as test
use Rattle.policy_model.specs.declared.test.Test.{Test}
use Rattle.policy_compile.specs.declared.builder.TheConstants.{MOST_TESTS}
use Rattle.policy_compile.specs.declared.builder.Builder.{Builder}
use Rattle.policy_compile.specs.declared.nodes.Node.{Node}
use Rattle.policy_compile.specs.declared.nodes.Node.TheVariants as node
use Rattle.policy_compile.specs.contracts.nodes.NodePartialEq.TheImpl as nodes
use Rattle.policy_compile.specs.Building.{IsBeginningOf, Built, HasNode, HasNumber}
use Rattle.policy_compile.specs.Nodes.{plan_ask}
use Rattle.policy_compile.specs.Numbering.{Collects, HasTooMany, nothing, again, anew}
use Rattle.policy_compile.specs.Plans.{ask}
use Rattle.policy_compile.proofs.Equal.{tests-Decides}

-- an item at an index is contained
Contains-at : {T : Type 0} (xs : List T) (n : ℕ) (x : T) → slice_get xs n ≡ Some x → Contains xs x
Contains-at xs n x e = (n, slice_get_within xs n x e, get_or_from_slice_get xs n x x e)

-- the last item
slice_get-last : {T : Type 0} (xs : List T) (x : T) → slice_get (xs ++ x ∷ []) (length xs) ≡ Some x
slice_get-last [] x = refl
slice_get-last (y ∷ xs) x = slice_get-last xs x

-- an item of a list with one more is one of the list, or the last
pub last-or-before : {T : Type 0} (xs : List T) (x : T) (i : ℕ) (y : T) → slice_get (xs ++ x ∷ []) i ≡ Some y → (slice_get xs i ≡ Some y) ⊎ ((i ≡ length xs) × (x ≡ y))
last-or-before [] x zero y e = inr (refl, cc)
last-or-before [] x (suc i) y e = absurd (cc)
last-or-before (z ∷ xs) x zero y e = inl e
last-or-before (z ∷ xs) x (suc i) y e = elim (last-or-before xs x i y e) [ inl at ↦ inl at | inr last ↦ inr (ap suc last.0, last.1) ]

-- the index of a new item at the end
last-index : {T : Type 0} (xs : List T) (t : T) (n : ℕ) → ¬ Contains xs t → slice_get (xs ++ t ∷ []) n ≡ Some t → n ≡ length xs
last-index xs t n new at = elim (last-or-before xs t n t at) [ inl before ↦ absurd (new (Contains-at xs n t before)) | inr last ↦ last.0 ]

-- what a list has where an item was put into it
abbrev WasHad : {T : Type 0} → List T → List T → T → ℕ → Type 0
WasHad xs ys t n = (ys ≡ xs) × (slice_get xs n ≡ Some t)

abbrev WasNew : {T : Type 0} → List T → List T → T → ℕ → Type 0
WasNew xs ys t n = (ys ≡ xs ++ t ∷ []) × (n ≡ length xs) × (¬ Contains xs t)

module _ {T : Type 0} (eq : T → T → Bool) (decides : (x y : T) → Decides (eq x y) (x ≡ y)) where
  -- an item that no item equals isn't had
  pub not_had : (xs : List T) (t : T) → list_any (eq t) xs ≡ false → ¬ Contains xs t
  not_had xs t none at =
      let same : eq t (get_or xs at.0 t) ≡ true = (decides t (get_or xs at.0 t)).1 (sym at.2) in
      true≢false (sym (list_any_at (eq t) xs at.0 t at.1 same) ∙ none)

  put : (xs ys : List T) (t had : T) (n : ℕ) → ys ≡ insert_key eq xs t → slice_get ys n ≡ Some had → eq t had ≡ true → WasHad xs ys t n ⊎ WasNew xs ys t n
  put xs ys t had n is at same = by (list_any (eq t) xs) refl
    where
      here : slice_get ys n ≡ Some t
      here = at ∙ ap Some (sym ((decides t had).0 same))

      by : (b : Bool) → list_any (eq t) xs ≡ b → WasHad xs ys t n ⊎ WasNew xs ys t n
      by true found =
          let whole : ys ≡ xs = is ∙ ap (λ b. if b then xs else xs ++ t ∷ []) found in
          inl (whole, subst (λ (zs : List T). slice_get zs n ≡ Some t) whole here)
      by false none =
          let whole : ys ≡ xs ++ t ∷ [] = is ∙ ap (λ b. if b then xs else xs ++ t ∷ []) none in
          let new = not_had xs t none in
          inr (whole, last-index xs t n new (subst (λ (zs : List T). slice_get zs n ≡ Some t) whole here), new)

-- ---- tests

-- a test that was put among those that were had is read
test-read : (xs ys : List Test) (t : Test) (n : ℕ) → WasHad xs ys t n ⊎ WasNew xs ys t n → Collects xs (t ∷ []) ys × (slice_get ys n ≡ Some t)
test-read xs ys t n (inl old) = (subst (λ (zs : List Test). Collects xs (t ∷ []) zs) (sym old.0) (again (Contains-at xs n t old.1) nothing), subst (λ (zs : List Test). slice_get zs n ≡ Some t) (sym old.0) old.1)
test-read xs ys t n (inr new) = (
  subst (λ (zs : List Test). Collects xs (t ∷ []) zs) (sym new.0) (anew new.2 nothing),
  subst (λ (zs : List Test). slice_get zs n ≡ Some t) (sym new.0) (subst (λ (k : ℕ). slice_get (xs ++ t ∷ []) k ≡ Some t) (sym new.1) (slice_get-last xs t)),
)

-- the test that was put among those that were had
pub test-put : (xs ys : List Test) (t had : Test) (n : ℕ) → ys ≡ insert_key test.eq-value.it xs t → slice_get ys n ≡ Some had → test.eq-value.it t had ≡ true → Collects xs (t ∷ []) ys × (slice_get ys n ≡ Some t)
test-put xs ys t had n is at same = test-read xs ys t n (put test.eq-value.it tests-Decides xs ys t had n is at same)

-- the node that asks the test of a number
pub asked : (old mid new : Builder) (t : Test) (n i : ℕ) → HasNumber old mid t n → HasNode mid new (node.Test n) i → Built old new (ask t) i
asked old mid new t n i test_had node_had = record {
  collects = subst (λ (xs : List Test). Collects old.tests.keys (t ∷ []) xs) (sym node_had.tests) test_had.collects;
  grows = subst (λ (xs : List Node). IsBeginningOf xs new.nodes.keys) test_had.nodes node_had.grows;
  node = plan_ask node_had.at (subst (λ (xs : List Test). slice_get xs n ≡ Some t) (sym node_had.tests) test_had.at);
}

-- whether there is room for a test
abbrev HasRoom : List Test → Test → Type 0
HasRoom xs t = (length xs < MOST_TESTS) ⊎ Contains xs t

abbrev IsFull : List Test → Test → Type 0
IsFull xs t = (MOST_TESTS ≤ length xs) × ¬ Contains xs t

pub no-room : (xs : List Test) (t : Test) (b : Bool) → b ≡ false → MatchBool b (HasRoom xs t) (IsFull xs t) → IsFull xs t
no-room xs t true e h = absurd (cc)
no-room xs t false e h = h

pub room : (xs : List Test) (t : Test) (b : Bool) → b ≡ true → MatchBool b (HasRoom xs t) (IsFull xs t) → HasRoom xs t
room xs t true e h = h
room xs t false e h = absurd (cc)

-- the tests stay few where there was room, or the test was had
pub still-few : (xs ys : List Test) (t : Test) → ys ≡ insert_key test.eq-value.it xs t → length xs ≤ MOST_TESTS → (length xs < MOST_TESTS) ⊎ Contains xs t → length ys ≤ MOST_TESTS
still-few xs ys t is few room = by (list_any (test.eq-value.it t) xs) refl room
  where
    by : (b : Bool) → list_any (test.eq-value.it t) xs ≡ b → (length xs < MOST_TESTS) ⊎ Contains xs t → length ys ≤ MOST_TESTS
    by true found h = subst (λ (zs : List Test). length zs ≤ MOST_TESTS) (sym (is ∙ ap (λ b. if b then xs else xs ++ t ∷ []) found)) few
    by false none (inl h) = subst (λ (zs : List Test). length zs ≤ MOST_TESTS) (sym (is ∙ ap (λ b. if b then xs else xs ++ t ∷ []) none)) (omega (arith, length-append xs (t ∷ []), h))
    by false none (inr had) = absurd (not_had test.eq-value.it tests-Decides xs t none had)

-- the same whether there was memory or not
pub still-few-after : {X E : Type 0} (xs ys : List Test) (t : Test) (r : Result X E) → IfOk r (λ x. ys ≡ insert_key test.eq-value.it xs t) → OnErr r (ys ≡ xs) → length xs ≤ MOST_TESTS → (length xs < MOST_TESTS) ⊎ Contains xs t → length ys ≤ MOST_TESTS
still-few-after xs ys t (Ok x) is same few room = still-few xs ys t is few room
still-few-after xs ys t (Err e) is same few room = subst (λ (zs : List Test). length zs ≤ MOST_TESTS) (sym same) few

-- a test that isn't had is one too many where 1,000 are had
pub one-too-many : (xs : List Test) (t : Test) → MOST_TESTS ≤ length xs → ¬ Contains xs t → HasTooMany xs (t ∷ [])
one-too-many xs t full new = record { front = t ∷ []; rest = []; got = xs ++ t ∷ []; is = refl; collects = anew new nothing; many = omega (arith, length-append xs (t ∷ []), full) }

-- whether there is room for a test where 1,000 are had, as a search for an equal one tells
pub had-or-full : (xs : List Test) (t : Test) (b : Bool) → b ≡ list_any (test.eq-value.it t) xs → MOST_TESTS ≤ length xs → MatchBool b ((length xs < MOST_TESTS) ⊎ Contains xs t) ((MOST_TESTS ≤ length xs) × ¬ Contains xs t)
had-or-full xs t true e full = inr (Contains-from_any (λ x y h. (tests-Decides x y).0 h) t xs (sym e))
had-or-full xs t false e full = (full, not_had test.eq-value.it tests-Decides xs t (sym e))
