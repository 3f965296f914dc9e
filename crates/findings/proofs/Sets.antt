-- What indexed sets have.
use Rattle.std.proofs.Common.{◌≡◌, ◌↔◌, ◌||◌, ℕ, List, [], ◌∷◌, ◌++◌, get_or, Bool, true, false, true≢false, Decides, Some, refl, sym, ap, ◌∙◌, subst, if◌then◌else◌, arith, nat_eq}
use Rattle.std.specs.Prelude.{Contains, IsTrue, slice_get}
use Rattle.std.specs.List.{list_any}
use Rattle.std.specs.Cmp.Lexicographic.{pointwise, pointwise_decides}
use Rattle.std.proofs.lemmas.Bool.Decides.{Decides-eqb}
use Rattle.std.proofs.lemmas.List.Elements.{Contains-append_right}
use Rattle.std.proofs.lemmas.List.Folds.{list_any_at}
use Rattle.std.proofs.lemmas.Option.{get_or_from_slice_get, slice_get_within}
use Rattle.indexmap.specs.IndexSet.{insert_key}
use Rattle.policy_model.specs.contracts.test.TestPartialEq.TheImpl as test
use Rattle.policy_model.specs.declared.test.Test.{Test}
use Rattle.policy_compile.specs.Numbering.{Collects, again, anew, nothing}
use Rattle.findings.specs.Asked.{HasTestNumber}
use Rattle.findings.proofs.Equal.{tests-Decides}

-- ---- a search for an equal item

module _ {X : Type 0} (p : X → Bool) (x : X) (decides : (y : X) → Decides (p y) (y ≡ x)) where
  found : (xs : List X) → list_any p xs ≡ true → Contains xs x
  found [] any = absurd (true≢false (sym any))
  found (y ∷ ys) any = by (p y) refl (λ none. found ys (ap (λ (b : Bool). b || list_any p ys) (sym none) ∙ any))
    where
      by : (b : Bool) → p y ≡ b → (p y ≡ false → Contains ys x) → Contains (y ∷ ys) x
      by true here rest = (0, omega arith, (decides y).0 here)
      by false none rest = Contains-append_right (y ∷ []) ys x (rest none)

  there : (xs : List X) → Contains xs x → list_any p xs ≡ true
  there xs h = list_any_at p xs h.0 x h.1 ((decides (get_or xs h.0 x)).1 h.2)

  pub any-among : (xs : List X) (b : Bool) → b ≡ list_any p xs → (IsTrue b ↔ Contains xs x)
  any-among xs b is = (λ e. found xs (sym is ∙ e), λ h. is ∙ there xs h)

turned : {X : Type 0} (b : Bool) (x y : X) → Decides b (x ≡ y) → Decides b (y ≡ x)
turned b x y d = (λ e. sym (d.0 e), λ e. d.1 (sym e))

pub finding-among : (xs : List (List ℕ)) (f : List ℕ) (b : Bool) → b ≡ list_any (pointwise nat_eq f) xs → (IsTrue b ↔ Contains xs f)
finding-among xs f = any-among (pointwise nat_eq f) f (λ g. turned (pointwise nat_eq f g) f g (pointwise_decides Decides-eqb f g)) xs

-- ---- what an insert leaves

pub inserted : (xs ys : List (List ℕ)) (f : List ℕ) → ys ≡ insert_key (pointwise nat_eq) xs f → ¬ Contains xs f → ys ≡ xs ++ f ∷ []
inserted xs ys f is new = by (list_any (pointwise nat_eq f) xs) refl
  where
    by : (b : Bool) → list_any (pointwise nat_eq f) xs ≡ b → ys ≡ xs ++ f ∷ []
    by true any = absurd (new ((finding-among xs f true (sym any)).0 refl))
    by false none = is ∙ ap (λ b. if b then xs else xs ++ f ∷ []) none

pub inserted-copy : (xs ys : List (List ℕ)) (f copy : List ℕ) → copy ≡ f → ys ≡ insert_key (pointwise nat_eq) xs copy → ¬ Contains xs f → ys ≡ xs ++ f ∷ []
inserted-copy xs ys f copy same is new =
    inserted xs ys copy is (subst (λ (g : List ℕ). ¬ Contains xs g) (sym same) new) ∙ ap (λ (g : List ℕ). xs ++ g ∷ []) same

-- ---- tests

among-at : (xs : List Test) (n : ℕ) (t : Test) → slice_get xs n ≡ Some t → Contains xs t
among-at xs n t e = (n, slice_get_within xs n t e, get_or_from_slice_get xs n t t e)

-- the test that was put among those that were had has this number
pub test-number : (xs ys : List Test) (t had : Test) (n : ℕ) → ys ≡ insert_key test.eq-value.it xs t → slice_get ys n ≡ Some had → test.eq-value.it t had ≡ true → HasTestNumber xs ys t n
test-number xs ys t had n is at same = by (list_any (test.eq-value.it t) xs) refl
  where
    here : slice_get ys n ≡ Some t
    here = at ∙ ap Some (sym ((tests-Decides t had).0 same))

    by : (b : Bool) → list_any (test.eq-value.it t) xs ≡ b → HasTestNumber xs ys t n
    by true any =
        let whole : ys ≡ xs = is ∙ ap (λ b. if b then xs else xs ++ t ∷ []) any in
        let own = subst (λ (zs : List Test). slice_get zs n ≡ Some t) whole here in
        record { collects = subst (λ (zs : List Test). Collects xs (t ∷ []) zs) (sym whole) (again (among-at xs n t own) nothing); at = here }
    by false none =
        let whole : ys ≡ xs ++ t ∷ [] = is ∙ ap (λ b. if b then xs else xs ++ t ∷ []) none in
        let new : ¬ Contains xs t = λ h. true≢false (sym (list_any_at (test.eq-value.it t) xs h.0 t h.1 ((tests-Decides t (get_or xs h.0 t)).1 (sym h.2))) ∙ none) in
        record { collects = subst (λ (zs : List Test). Collects xs (t ∷ []) zs) (sym whole) (anew new nothing); at = here }
