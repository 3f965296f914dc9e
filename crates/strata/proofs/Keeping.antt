-- Predicates are looked at one after the other, and those are kept that are met by other requests than all before them.
use Rattle.std.proofs.Common.{◌≤◌, List, [], ◌∷◌, ◌++◌, length, All, Contains, sym, subst, inl, inr, arith}
use Rattle.std.specs.Prelude.{Any}
use Rattle.std.proofs.lemmas.List.{append-nil, append_assoc}
use Rattle.std.proofs.lemmas.List.Quantifiers.{Any-push}
use Rattle.std.proofs.lemmas.List.Elements.{All-contains, All-contains_itself, Contains-append_left, Contains-push_cases}
use Rattle.policy_model.specs.declared.schema.Schema.{Schema}
use Rattle.policy_model.specs.declared.test.Slot.{Slot}
use Rattle.strata.specs.declared.predicate.Predicate.{Predicate}
use Rattle.strata.specs.Below.{AreKeptAmong, IsKeptAfter, IsMetUnder, Keeps, MeetTheSame, keeps_none, keeps_it, drops_it}
use Rattle.strata.proofs.Ordering.{any-of, below-self, kept-named, same-through}

-- a predicate that is kept after all of these
keeps-last : (schema : Schema) (s : Slot) (earlier names kept : List Predicate) (p : Predicate) → Keeps schema s earlier names kept → IsKeptAfter schema s (earlier ++ names) p → Keeps schema s earlier (names ++ p ∷ []) (kept ++ p ∷ [])
keeps-last schema s earlier [] kept p keeps_none h = keeps_it (subst (λ (ps : List Predicate). IsKeptAfter schema s ps p) (append-nil earlier) h) keeps_none
keeps-last schema s earlier (q ∷ names) kept p (keeps_it {kept = more} here rest) h =
    keeps_it here (keeps-last schema s (earlier ++ q ∷ []) names more p rest (subst (λ (ps : List Predicate). IsKeptAfter schema s ps p) (sym (append_assoc earlier (q ∷ []) names)) h))
keeps-last schema s earlier (q ∷ names) kept p (drops_it here rest) h =
    drops_it here (keeps-last schema s (earlier ++ q ∷ []) names kept p rest (subst (λ (ps : List Predicate). IsKeptAfter schema s ps p) (sym (append_assoc earlier (q ∷ []) names)) h))

-- and one that isn't
drops-last : (schema : Schema) (s : Slot) (earlier names kept : List Predicate) (p : Predicate) → Keeps schema s earlier names kept → (IsKeptAfter schema s (earlier ++ names) p → ⊥) → Keeps schema s earlier (names ++ p ∷ []) kept
drops-last schema s earlier [] kept p keeps_none h = drops_it (subst (λ (ps : List Predicate). IsKeptAfter schema s ps p → ⊥) (append-nil earlier) h) keeps_none
drops-last schema s earlier (q ∷ names) kept p (keeps_it {kept = more} here rest) h =
    keeps_it here (drops-last schema s (earlier ++ q ∷ []) names more p rest (subst (λ (ps : List Predicate). IsKeptAfter schema s ps p → ⊥) (sym (append_assoc earlier (q ∷ []) names)) h))
drops-last schema s earlier (q ∷ names) kept p (drops_it here rest) h =
    drops_it here (drops-last schema s (earlier ++ q ∷ []) names kept p rest (subst (λ (ps : List Predicate). IsKeptAfter schema s ps p → ⊥) (sym (append_assoc earlier (q ∷ []) names)) h))

-- what is kept is among what is named
pub kept-among : (schema : Schema) (s : Slot) (names kept : List Predicate) → AreKeptAmong schema s names kept → All (Contains names) kept
kept-among schema s names kept are = kept-named (Contains names) schema s [] names kept are (All-contains_itself names)

-- no more are kept than are named
pub kept-few : (schema : Schema) (s : Slot) (earlier names kept : List Predicate) → Keeps schema s earlier names kept → length kept ≤ length names
kept-few schema s earlier [] kept keeps_none = omega arith
kept-few schema s earlier (p ∷ names) kept (keeps_it {kept = more} here rest) = omega (arith, kept-few schema s (earlier ++ p ∷ []) names more rest)
kept-few schema s earlier (p ∷ names) kept (drops_it here rest) = omega (arith, kept-few schema s (earlier ++ p ∷ []) names kept rest)

-- each of the named predicates that is met has a kept one that the same requests meet
abbrev pub Covers : Schema → Slot → List Predicate → List Predicate → Type 0
Covers schema s names kept = (q : Predicate) → Contains names q → IsMetUnder schema s q → Any (λ k. MeetTheSame schema s k q) kept

-- ---- a predicate that no valid request meets

pub unmet-keeps : (schema : Schema) (s : Slot) (names kept : List Predicate) (p : Predicate) → AreKeptAmong schema s names kept → (IsMetUnder schema s p → ⊥) → AreKeptAmong schema s (names ++ p ∷ []) kept
unmet-keeps schema s names kept p are unmet = drops-last schema s [] names kept p are (λ h. unmet h.met)

pub unmet-covers : (schema : Schema) (s : Slot) (names kept : List Predicate) (p : Predicate) → Covers schema s names kept → (IsMetUnder schema s p → ⊥) → Covers schema s (names ++ p ∷ []) kept
unmet-covers schema s names kept p covers unmet q here met = elim (Contains-push_cases names p q here) [
  | inl before ↦ covers q before met
  | inr last ↦ absurd (unmet (subst (IsMetUnder schema s) (sym last) met))
]

-- ---- a predicate that is met by the same requests as a kept one

pub same-keeps : (schema : Schema) (s : Slot) (names kept : List Predicate) (p : Predicate) → AreKeptAmong schema s names kept → Any (λ k. MeetTheSame schema s k p) kept → AreKeptAmong schema s (names ++ p ∷ []) kept
same-keeps schema s names kept p are some =
    drops-last schema s [] names kept p are
    (λ h. h.first (any-of (λ k. MeetTheSame schema s k p) names some.1 (All-contains (Contains names) kept some.1 (kept-among schema s names kept are) (some.0, some.2, some.3)) some.4))

pub same-covers : (schema : Schema) (s : Slot) (names kept : List Predicate) (p : Predicate) → Covers schema s names kept → Any (λ k. MeetTheSame schema s k p) kept → Covers schema s (names ++ p ∷ []) kept
same-covers schema s names kept p covers some q here met = elim (Contains-push_cases names p q here) [
  | inl before ↦ covers q before met
  | inr last ↦ subst (λ (t : Predicate). Any (λ k. MeetTheSame schema s k t) kept) last some
]

-- ---- a predicate that is kept

pub new-keeps : (schema : Schema) (s : Slot) (names kept : List Predicate) (p : Predicate) → AreKeptAmong schema s names kept → Covers schema s names kept → IsMetUnder schema s p → (Any (λ k. MeetTheSame schema s k p) kept → ⊥) → AreKeptAmong schema s (names ++ p ∷ []) (kept ++ p ∷ [])
new-keeps schema s names kept p are covers met apart = keeps-last schema s [] names kept p are (record {
  met = met;
  first = λ some.
      let q = some.1 in
      let q_met : IsMetUnder schema s q = record { request = met.request; valid = met.valid; meets = some.4.above met.request met.valid met.meets } in
      let cover = covers q (some.0, some.2, some.3) q_met in
      apart (cover.0, cover.1, cover.2, cover.3, same-through schema s cover.1 q p cover.4 some.4);
})

any-longer : {X : Type 0} (P : X → Type 0) (xs ys : List X) → Any P xs → Any P (xs ++ ys)
any-longer P xs ys some = let at = Contains-append_left xs ys some.1 (some.0, some.2, some.3) in (at.0, some.1, at.1, at.2, some.4)

pub new-covers : (schema : Schema) (s : Slot) (names kept : List Predicate) (p : Predicate) → Covers schema s names kept → Covers schema s (names ++ p ∷ []) (kept ++ p ∷ [])
new-covers schema s names kept p covers q here met = elim (Contains-push_cases names p q here) [
  | inl before ↦ any-longer (λ k. MeetTheSame schema s k q) kept (p ∷ []) (covers q before met)
  | inr last ↦ Any-push (λ k. MeetTheSame schema s k q) kept p (subst (λ (t : Predicate). MeetTheSame schema s p t) last (record { below = below-self schema s p; above = below-self schema s p }))
]
