-- The order of predicates by the valid requests that meet them, and what it says of those that are kept.
use Rattle.std.proofs.Common.{◌≡◌, ℕ, zero, suc, ◌<◌, List, [], ◌∷◌, ◌++◌, length, All, Contains, refl, sym, subst, inl, inr, arith}
use Rattle.std.specs.Prelude.{Any, AllPairs}
use Rattle.std.proofs.lemmas.Bool.{cases_lt}
use Rattle.std.proofs.lemmas.List.Elements.{All-nil, All-cons, Contains-append_left, Contains-push}
use Rattle.policy_model.specs.declared.schema.Schema.{Schema}
use Rattle.policy_model.specs.declared.test.Slot.{Slot}
use Rattle.policy_model.specs.declared.test.Test.{Test}
use Rattle.policy_model.specs.Requests.{HasValidRequest}
use Rattle.strata.specs.declared.predicate.Predicate.{Predicate}
use Rattle.strata.specs.declared.predicate.Predicate.TheVariants.{Every}
use Rattle.strata.specs.Predicates.{Gathers, MeetsPredicate, gathers_none, gathers_again, gathers_anew, read_in}
use Rattle.strata.specs.Below.{AreKeptAmong, IsApart, IsBelow, IsMetUnder, Keeps, MeetTheSame, keeps_none, keeps_it, drops_it}
use Rattle.strata.specs.Covers.{IsBelowAt, IsStrictlyBelow, predicate_at}
use Rattle.strata.specs.Strata.{AreKeptOf}

pub below-self : (schema : Schema) (s : Slot) (p : Predicate) → IsBelow schema s p p
below-self schema s p = λ r valid meets. meets

pub below-through : (schema : Schema) (s : Slot) (p q t : Predicate) → IsBelow schema s p q → IsBelow schema s q t → IsBelow schema s p t
below-through schema s p q t first second = λ r valid meets. second r valid (first r valid meets)

-- one that is below another isn't apart from it
pub apart-below : (schema : Schema) (s : Slot) (p q : Predicate) → IsApart schema s p q → IsBelow schema s p q → ⊥
apart-below schema s p q apart below = apart.misses (below apart.request apart.valid apart.meets)

pub same-through : (schema : Schema) (s : Slot) (p q t : Predicate) → MeetTheSame schema s p q → MeetTheSame schema s q t → MeetTheSame schema s p t
same-through schema s p q t first second = record {
  below = below-through schema s p q t first.below second.below;
  above = below-through schema s t q p second.above first.above;
}

-- an item of a list of which P holds
pub any-of : {X : Type 0} (P : X → Type 0) (xs : List X) (x : X) → Contains xs x → P x → Any P xs
any-of P xs x here p = (here.0, x, here.1, here.2, p)

AllPairs-cons : {X : Type 0} (R : X → X → Type 0) (x : X) (xs : List X) → All (R x) xs → AllPairs R xs → AllPairs R (x ∷ xs)
AllPairs-cons R x xs first rest i zero d h w = absurd (omega arith)
AllPairs-cons R x xs first rest zero (suc j) d h w = first j d (omega arith)
AllPairs-cons R x xs first rest (suc i) (suc j) d h w = rest i j d (omega arith) (omega arith)

-- what is kept isn't met by the same requests as an earlier one
apart-earlier : (schema : Schema) (s : Slot) (earlier names kept : List Predicate) (q : Predicate) → Keeps schema s earlier names kept → Contains earlier q → All (λ p. ¬ MeetTheSame schema s q p) kept
apart-earlier schema s earlier [] kept q keeps_none here = All-nil (λ p. ¬ MeetTheSame schema s q p)
apart-earlier schema s earlier (p ∷ names) kept q (keeps_it {kept = more} h rest) here =
    All-cons (λ t. ¬ MeetTheSame schema s q t) p more (λ same. h.first (any-of (λ t. MeetTheSame schema s t p) earlier q here same))
    (apart-earlier schema s (earlier ++ p ∷ []) names more q rest (Contains-append_left earlier (p ∷ []) q here))
apart-earlier schema s earlier (p ∷ names) kept q (drops_it h rest) here = apart-earlier schema s (earlier ++ p ∷ []) names kept q rest (Contains-append_left earlier (p ∷ []) q here)

-- no two that are kept are met by the same requests
pub kept-apart : (schema : Schema) (s : Slot) (earlier names kept : List Predicate) → Keeps schema s earlier names kept → AllPairs (λ p q. ¬ MeetTheSame schema s p q) kept
kept-apart schema s earlier [] kept keeps_none = λ i j d h w. absurd (omega arith)
kept-apart schema s earlier (p ∷ names) kept (keeps_it {kept = more} h rest) =
    AllPairs-cons (λ p q. ¬ MeetTheSame schema s p q) p more (apart-earlier schema s (earlier ++ p ∷ []) names more p rest (Contains-push earlier p)) (kept-apart schema s (earlier ++ p ∷ []) names more rest)
kept-apart schema s earlier (p ∷ names) kept (drops_it h rest) = kept-apart schema s (earlier ++ p ∷ []) names kept rest

-- each that is kept is met
pub kept-met : (schema : Schema) (s : Slot) (earlier names kept : List Predicate) → Keeps schema s earlier names kept → All (IsMetUnder schema s) kept
kept-met schema s earlier [] kept keeps_none = All-nil (IsMetUnder schema s)
kept-met schema s earlier (p ∷ names) kept (keeps_it {kept = more} h rest) = All-cons (IsMetUnder schema s) p more h.met (kept-met schema s (earlier ++ p ∷ []) names more rest)
kept-met schema s earlier (p ∷ names) kept (drops_it h rest) = kept-met schema s (earlier ++ p ∷ []) names kept rest

-- what holds of each that is named holds of each that is kept
pub kept-named : (P : Predicate → Type 0) (schema : Schema) (s : Slot) (earlier names kept : List Predicate) → Keeps schema s earlier names kept → All P names → All P kept
kept-named P schema s earlier [] kept keeps_none each = All-nil P
kept-named P schema s earlier (p ∷ names) kept (keeps_it {kept = more} h rest) each = All-cons P p more (each 0 p (omega arith)) (kept-named P schema s (earlier ++ p ∷ []) names more rest (λ k d w. each (suc k) d (omega arith)))
kept-named P schema s earlier (p ∷ names) kept (drops_it h rest) each = kept-named P schema s (earlier ++ p ∷ []) names kept rest (λ k d w. each (suc k) d (omega arith))

-- two numbers of kept predicates that are below one another are the same
pub kept-differ : (schema : Schema) (s : Slot) (names kept : List Predicate) (i j : ℕ) → AreKeptAmong schema s names kept → i < length kept → j < length kept → IsBelowAt schema s kept i j → IsBelowAt schema s kept j i → i ≡ j
kept-differ schema s names kept i j are wi wj below above = elim (cases_lt i j) [
  | inl less ↦ absurd (kept-apart schema s [] names kept are i j Every less wj (record { below = below; above = above }))
  | inr more ↦ elim (cases_lt j i) [
    | inl less ↦ absurd (kept-apart schema s [] names kept are j i Every less wi (record { below = above; above = below }))
    | inr most ↦ omega arith
  ]
]

pub strictly-irreflexive : (schema : Schema) (s : Slot) (kept : List Predicate) (i : ℕ) → IsStrictlyBelow schema s kept i i → ⊥
strictly-irreflexive schema s kept i h = h.differ refl

-- strictly below is transitive on the predicates that are kept
pub strictly-through : (schema : Schema) (s : Slot) (names kept : List Predicate) (i j k : ℕ) → AreKeptAmong schema s names kept → IsStrictlyBelow schema s kept i j → IsStrictlyBelow schema s kept j k → IsStrictlyBelow schema s kept i k
strictly-through schema s names kept i j k are first second = record {
  lower = first.lower;
  upper = second.upper;
  differ = λ same. first.differ (kept-differ schema s names kept i j are first.lower first.upper first.below (subst (λ (n : ℕ). IsBelowAt schema s kept j n) (sym same) second.below));
  below = below-through schema s (predicate_at kept i) (predicate_at kept j) (predicate_at kept k) first.below second.below;
}

-- what is had stays at the front
pub gathers-begins : (p : Predicate) (had read got : List Predicate) → Gathers (p ∷ had) read got → (more : List Predicate) × (got ≡ p ∷ more)
gathers-begins p had [] got gathers_none = (had, refl)
gathers-begins p had (q ∷ read) got (gathers_again here rest) = gathers-begins p had read got rest
gathers-begins p had (q ∷ read) got (gathers_anew new rest) = gathers-begins p (had ++ q ∷ []) read got rest

first-kept : (schema : Schema) (s : Slot) (names kept : List Predicate) → HasValidRequest schema → AreKeptAmong schema s (Every ∷ names) kept → (rest : List Predicate) × (kept ≡ Every ∷ rest)
first-kept schema s names kept some (keeps_it {kept = more} h rest) = (more, refl)
first-kept schema s names kept some (drops_it h rest) = absurd (h (record {
  met = record { request = some.0; valid = some.1; meets = tt };
  first = λ earlier. absurd (omega (arith, earlier.2));
}))

-- the first of the predicates that are kept is `any`
pub any-first : (schema : Schema) (s : Slot) (tests : List Test) (kept : List Predicate) → HasValidRequest schema → AreKeptOf schema s tests kept → (rest : List Predicate) × (kept ≡ Every ∷ rest)
any-first schema s tests kept some are =
    let begins = gathers-begins Every [] (read_in s tests) are.names are.named in
    first-kept schema s begins.0 kept some (subst (λ (ns : List Predicate). AreKeptAmong schema s ns kept) begins.1 are.kept)

-- and each other one is strictly below it
pub all-below-any : (schema : Schema) (s : Slot) (tests : List Test) (kept : List Predicate) (i : ℕ) → HasValidRequest schema → AreKeptOf schema s tests kept → 0 < i → i < length kept → IsStrictlyBelow schema s kept i 0
all-below-any schema s tests kept i some are more within =
    let first = any-first schema s tests kept some are in
    record {
      lower = within;
      upper = omega arith;
      differ = λ same. omega arith;
      below = λ r valid meets. subst (λ (ps : List Predicate). MeetsPredicate s (predicate_at ps 0) r) (sym first.1) tt;
    }
