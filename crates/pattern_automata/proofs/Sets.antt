-- Whether a list stands among those that the keys of a set stand for.
use Rattle.std.proofs.Common.{◌≡◌, ℕ, zero, suc, ◌<◌, List, [], ◌∷◌, ◌++◌, length, get_or, map, Bool, true, cond, eqb, Vec, Contains, Decides, refl, sym, ap, ◌∙◌, subst, inl, inr, arith}
use Rattle.std.specs.List.{list_any}
use Rattle.std.specs.Cmp.Lexicographic.{pointwise}
use Rattle.std.specs.declared.alloc.Global.{Global}
use Rattle.std.proofs.lemmas.Bool.{cond-false, eqb-true, eq-eqb, false_from_ne_true, or_cases, or_left, or_right}
use Rattle.std.proofs.lemmas.List.{get_or-map, length-map, map_push}
use Rattle.std.proofs.lemmas.Slice.Eq.{slice_eq-Decides}
use Rattle.indexmap.specs.IndexSet.{insert_key}

-- keys of which each stands for a list, and a test whether one stands for m
module _ {X : Type 0} (stand : X → List ℕ) (test : X → Bool) (m : List ℕ) (same : (x : X) → Decides (test x) (m ≡ stand x)) where
  contains-from : (keys : List X) → list_any test keys ≡ true → Contains (map stand keys) m
  contains-from [] h = absurd (cc)
  contains-from (x ∷ xs) h =
      elim (or_cases (test x) _ h) [
        | inl e ↦ (0, omega arith, sym ((same x).0 e))
        | inr r ↦ let rest = contains-from xs r in (suc rest.0, omega (arith, rest.1), rest.2)
      ]

  from-contains : (keys : List X) (k : ℕ) → k < length (map stand keys) → get_or (map stand keys) k m ≡ m → list_any test keys ≡ true
  from-contains [] k h e = absurd (omega arith)
  from-contains (x ∷ xs) zero h e = or_left _ _ ((same x).1 (sym e))
  from-contains (x ∷ xs) (suc k) h e = or_right _ _ (from-contains xs k (omega arith) e)

  pub among-Decides : (keys : List X) → Decides (list_any test keys) (Contains (map stand keys) m)
  among-Decides keys = (contains-from keys, λ w. from-contains keys w.0 w.1 w.2)

  insert-new : (keys new : List X) (x : X) → new ≡ cond (list_any test keys) keys (keys ++ x ∷ []) → (Contains (map stand keys) m → ⊥) → new ≡ keys ++ x ∷ []
  insert-new keys new x is absent = is ∙ cond-false _ keys (keys ++ x ∷ []) (false_from_ne_true _ (λ e. absent (contains-from keys e)))

-- vectors stand for their items
pub vector-same : (m : List ℕ) (v : Vec ℕ Global) → Decides (pointwise eqb m v.items) (m ≡ v.items)
vector-same m v = slice_eq-Decides (λ a b. (eqb-true a b, eq-eqb a b)) m v.items _ refl

pub insert-vector : (keys new : List (Vec ℕ Global)) (v : Vec ℕ Global) (m : List ℕ) → new ≡ insert_key (λ x y. pointwise eqb x.items y.items) keys v → v.items ≡ m →
    (Contains (map (λ k. k.items) keys) m → ⊥) → map (λ k. k.items) new ≡ map (λ k. k.items) keys ++ m ∷ []
insert-vector keys new v m is items absent =
    let pushed : new ≡ keys ++ v ∷ [] = insert-new (λ k. k.items) _ v.items (vector-same v.items) keys new v is (λ h. absent (rw items at h)) in
    ap (map (λ k. k.items)) pushed ∙ (map_push (λ k. k.items) keys v ∙ ap (λ x. map (λ k. k.items) keys ++ x ∷ []) items)

-- and words for the lists of one alone
word-same : (w x : ℕ) → Decides (eqb w x) (w ∷ [] ≡ x ∷ [])
word-same w x = (λ h. ap (λ y. y ∷ []) (eqb-true w x h), λ e. eq-eqb w x (ap (λ l. get_or l 0 0) e))

alone : (m : List ℕ) → length m ≡ 1 → m ≡ get_or m 0 0 ∷ []
alone [] e = absurd (omega arith)
alone (x ∷ []) e = refl
alone (x ∷ (y ∷ ys)) e = absurd (omega arith)

pub single-Decides : (keys m : List ℕ) → length m ≡ 1 → Decides (list_any (eqb (get_or m 0 0)) keys) (Contains (map (λ w. w ∷ []) keys) m)
single-Decides keys m one =
    subst (λ (l : List ℕ). Decides (list_any (eqb (get_or m 0 0)) keys) (Contains (map (λ w. w ∷ []) keys) l)) (sym (alone m one))
    (among-Decides (λ w. w ∷ []) _ (get_or m 0 0 ∷ []) (word-same (get_or m 0 0)) keys)

pub single-length : (keys m : List ℕ) → Contains (map (λ w. w ∷ []) keys) m → length m ≡ 1
single-length keys m c = ap length (sym c.2 ∙ get_or-map (λ w. w ∷ []) keys c.0 0 m (omega (arith, c.1, length-map keys (λ w. w ∷ []))))

pub insert-word : (keys new : List ℕ) (w : ℕ) → new ≡ insert_key eqb keys w → (Contains (map (λ k. k ∷ []) keys) (w ∷ []) → ⊥) → new ≡ keys ++ w ∷ []
insert-word keys new w is absent = insert-new (λ k. k ∷ []) _ (w ∷ []) (word-same w) keys new w is absent
