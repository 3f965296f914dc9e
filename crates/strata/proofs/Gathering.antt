-- Predicates that are read one after the other.
use Rattle.std.proofs.Common.{◌≡◌, ℕ, ◌+◌, ◌<◌, ◌≤◌, List, [], ◌∷◌, ◌++◌, length, get_or, take, map, inl, inr, true, false, true≢false, Contains, refl, sym, ap, ◌∙◌, subst, if◌then◌else◌}
use Rattle.std.specs.List.{flat_map, list_any}
use Rattle.std.proofs.lemmas.Bool.{cases_Bool}
use Rattle.std.proofs.lemmas.List.{append-nil, append_assoc, take_more, take_all}
use Rattle.std.proofs.lemmas.List.Folds.{list_any_at}
use Rattle.std.proofs.lemmas.Map.Views.{Contains-from_any}
use Rattle.indexmap.specs.IndexSet.{insert_key}
use Rattle.strata.specs.declared.predicate.Predicate.{Predicate}
use Rattle.strata.specs.contracts.predicate.PredicatePartialEq.TheImpl as predicate
use Rattle.std.specs.Prelude.{Result, Ok, Err, IfOk}
use Rattle.policy_model.specs.declared.test.Slot.{Slot}
use Rattle.policy_model.specs.declared.test.Test.{Test}
use Rattle.strata.specs.declared.predicate.Predicate.TheVariants.{Every}
use Rattle.strata.specs.Predicates.{AreNamed, Gathers, read_in, gathers_none, gathers_again, gathers_anew}
use Rattle.strata.proofs.Equal.{predicates-Decides}

-- what is read in two parts
pub gathers-append : (a xs b ys c : List Predicate) → Gathers a xs b → Gathers b ys c → Gathers a (xs ++ ys) c
gathers-append a [] b ys c gathers_none second = second
gathers-append a (p ∷ xs) b ys c (gathers_again had first) second = gathers_again had (gathers-append a xs b ys c first second)
gathers-append a (p ∷ xs) b ys c (gathers_anew new first) second = gathers_anew new (gathers-append (a ++ p ∷ []) xs b ys c first second)

-- nothing else is got of the same
pub gathers-unique : (had read b c : List Predicate) → Gathers had read b → Gathers had read c → b ≡ c
gathers-unique had [] b c gathers_none gathers_none = refl
gathers-unique had (p ∷ read) b c (gathers_again here first) (gathers_again there second) = gathers-unique had read b c first second
gathers-unique had (p ∷ read) b c (gathers_again here first) (gathers_anew new second) = absurd (new here)
gathers-unique had (p ∷ read) b c (gathers_anew new first) (gathers_again there second) = absurd (new there)
gathers-unique had (p ∷ read) b c (gathers_anew new first) (gathers_anew anew second) = gathers-unique (had ++ p ∷ []) read b c first second

-- a predicate that no item equals isn't had
not-had : (xs : List Predicate) (p : Predicate) → list_any (predicate.eq-value.it p) xs ≡ false → ¬ Contains xs p
not-had xs p none at =
    let same : predicate.eq-value.it p (get_or xs at.0 p) ≡ true = (predicates-Decides p (get_or xs at.0 p)).1 (sym at.2) in
    true≢false (sym (list_any_at (predicate.eq-value.it p) xs at.0 p at.1 same) ∙ none)

-- the predicate that was put among those that were had
pub gathers-put : (xs ys : List Predicate) (p : Predicate) → ys ≡ insert_key predicate.eq-value.it xs p → Gathers xs (p ∷ []) ys
gathers-put xs ys p is = elim (cases_Bool (list_any (predicate.eq-value.it p) xs)) [
  | inl found ↦
      let whole : ys ≡ xs = is ∙ ap (λ b. if b then xs else xs ++ p ∷ []) found in
      subst (λ (zs : List Predicate). Gathers xs (p ∷ []) zs) (sym whole) (gathers_again (Contains-from_any (λ x y h. (predicates-Decides x y).0 h) p xs found) gathers_none)
  | inr none ↦
      let whole : ys ≡ xs ++ p ∷ [] = is ∙ ap (λ b. if b then xs else xs ++ p ∷ []) none in
      subst (λ (zs : List Predicate). Gathers xs (p ∷ []) zs) (sym whole) (gathers_anew (not-had xs p none) gathers_none)
]

-- ---- loops

-- one more item of a list was read, each of which stands for some predicates
pub gathers-more : {X : Type 0} (f : X → List Predicate) (xs : List X) (i : ℕ) (x : X) (a b c : List Predicate) → i < length xs → x ≡ get_or xs i x → Gathers a (flat_map f (take i xs)) b → Gathers b (f x) c → Gathers a (flat_map f (take (i + 1) xs)) c
gathers-more f xs i x a b c within is first second =
    let whole : take (i + 1) xs ≡ take i xs ++ x ∷ [] = take_more xs i x within ∙ ap (λ y. take i xs ++ y ∷ []) (sym is) in
    subst (λ (ys : List Predicate). Gathers a ys c) (sym (ap (flat_map f) whole ∙ flat-push f (take i xs) x)) (gathers-append a (flat_map f (take i xs)) b (f x) c first second)
  where
    flat-push : {X : Type 0} (f : X → List Predicate) (ys : List X) (y : X) → flat_map f (ys ++ y ∷ []) ≡ flat_map f ys ++ f y
    flat-push f [] y = append-nil (f y)
    flat-push f (z ∷ ys) y = ap (λ zs. f z ++ zs) (flat-push f ys y) ∙ sym (append_assoc (f z) (flat_map f ys) (f y))

-- all were read
pub gathers-all : {X : Type 0} (f : X → List Predicate) (xs : List X) (i : ℕ) (a b : List Predicate) → length xs ≤ i → Gathers a (flat_map f (take i xs)) b → Gathers a (flat_map f xs) b
gathers-all {X = X} f xs i a b past h = subst (λ (ys : List X). Gathers a (flat_map f ys) b) (take_all i xs past) h

-- one predicate for each item
pub flat-one : {X : Type 0} (f : X → Predicate) (xs : List X) → flat_map (λ x. f x ∷ []) xs ≡ map f xs
flat-one f [] = refl
flat-one f (x ∷ xs) = ap (λ ys. f x ∷ ys) (flat-one f xs)

-- the list of what was gathered has what is named
pub named-all : {E : Type 0} (s : Slot) (tests : List Test) (keys : List Predicate) (r : Result (List Predicate) E) → IfOk r (λ list. list ≡ keys) → Gathers (Every ∷ []) (read_in s tests) keys → IfOk r (AreNamed s tests)
named-all s tests keys (Ok list) is h = subst (AreNamed s tests) (sym is) h
named-all s tests keys (Err e) is h = tt
