-- What decides tells whether the request is allowed: a statement of a set stands under its name, and those that stand under names are the set's.
use Rattle.std.proofs.Common.{◌≡◌, ◌<◌, ◌+◌, ℕ, zero, suc, List, [], ◌∷◌, ◌++◌, length, get_or, Bool, true, false, All, Any, ◌⊎◌, inl, inr, refl, subst, sym, arith}
use Rattle.policy_model.specs.Sets.{Allows, Decides, SomeDecides}
use Rattle.policy_model.specs.declared.schema.Schema.{Schema}
use Rattle.policy_model.specs.declared.request.Request.{Request}
use Rattle.policy_model.specs.declared.set.Statement.{Statement}
use Rattle.policy_model.specs.declared.set.StatementName.{StatementName}
use Rattle.policy_model.specs.declared.set.Document.{Document}
use Rattle.policy_model.specs.declared.set.PolicySet.{PolicySet}
use Rattle.policy_model.specs.StatementNames.{Named, name_of, named_documents, named_grants, named_guards, named_set, named_statements}
use Rattle.policy_eval.specs.declared.outcome.Decider.{Decider}
use Rattle.policy_eval.specs.declared.outcome.Decider.TheVariants as by
use Rattle.policy_eval.specs.Deciding.{IsAllowedBy, IsFirstDeciding, NamedDecides, NoneDecides}
use Rattle.policy_eval.specs.Laws.{DecidesWhatIsAllowed}
use Rattle.policy_eval.proofs.Unique.{none-silent}

-- ---- some item of a list

Any-nil : {T : Type 0} (P : T → Type 0) → ¬ Any P []
Any-nil P h = let none = h.2 in omega arith

Any-here : {T : Type 0} (P : T → Type 0) (x : T) (xs : List T) → P x → Any P (x ∷ xs)
Any-here P x xs h = (0, x, omega arith, refl, h)

Any-later : {T : Type 0} (P : T → Type 0) (x : T) (xs : List T) → Any P xs → Any P (x ∷ xs)
Any-later P x xs h = (suc h.0, h.1, omega arith, h.3, h.4)

Any-index : {T : Type 0} (P : T → Type 0) (x : T) (xs : List T) (k : ℕ) (y : T) → k < length (x ∷ xs) → get_or (x ∷ xs) k y ≡ y → P y → P x ⊎ Any P xs
Any-index P x xs zero y within is h = inl (subst P (sym is) h)
Any-index P x xs (suc k) y within is h = inr (k, y, omega arith, is, h)

Any-split : {T : Type 0} (P : T → Type 0) (x : T) (xs : List T) → Any P (x ∷ xs) → P x ⊎ Any P xs
Any-split P x xs h = Any-index P x xs h.0 h.1 h.2 h.3 h.4

Any-front : {T : Type 0} (P : T → Type 0) (xs ys : List T) → Any P xs → Any P (xs ++ ys)
Any-front P [] ys h = absurd (Any-nil P h)
Any-front P (x ∷ xs) ys h = elim (Any-split P x xs h) [
  | inl here ↦ Any-here P x (xs ++ ys) here
  | inr later ↦ Any-later P x (xs ++ ys) (Any-front P xs ys later)
]

Any-behind : {T : Type 0} (P : T → Type 0) (xs ys : List T) → Any P ys → Any P (xs ++ ys)
Any-behind P [] ys h = h
Any-behind P (x ∷ xs) ys h = Any-later P x (xs ++ ys) (Any-behind P xs ys h)

Any-joined : {T : Type 0} (P : T → Type 0) (xs ys : List T) → Any P (xs ++ ys) → Any P xs ⊎ Any P ys
Any-joined P [] ys h = inr h
Any-joined P (x ∷ xs) ys h = elim (Any-split P x (xs ++ ys) h) [
  | inl here ↦ inl (Any-here P x xs here)
  | inr later ↦ elim (Any-joined P xs ys later) [
    | inl front ↦ inl (Any-later P x xs front)
    | inr behind ↦ inr behind
  ]
]

-- none where each item is none
None-of : {T : Type 0} (P : T → Type 0) (xs : List T) → All (λ x. ¬ P x) xs → ¬ Any P xs
None-of P xs none some = none some.0 some.1 some.2 (subst P (sym some.3) some.4)

-- ---- statements and their names

module _ (schema : Schema) (allow : Bool) (r : Request) where
  named-statements : (d s : ℕ) (xs : List Statement) → Any (Decides schema allow r) xs → Any (NamedDecides schema allow r) (named_statements d s xs)
  named-statements d s [] some = absurd (Any-nil (Decides schema allow r) some)
  named-statements d s (x ∷ xs) some = elim (Any-split (Decides schema allow r) x xs some) [
    | inl here ↦ Any-here (NamedDecides schema allow r) (name_of d s, x) (named_statements d (s + 1) xs) here
    | inr later ↦ Any-later (NamedDecides schema allow r) (name_of d s, x) (named_statements d (s + 1) xs) (named-statements d (s + 1) xs later)
  ]

  of-statements : (d s : ℕ) (xs : List Statement) → Any (NamedDecides schema allow r) (named_statements d s xs) → Any (Decides schema allow r) xs
  of-statements d s [] some = absurd (Any-nil (NamedDecides schema allow r) some)
  of-statements d s (x ∷ xs) some = elim (Any-split (NamedDecides schema allow r) (name_of d s, x) (named_statements d (s + 1) xs) some) [
    | inl here ↦ Any-here (Decides schema allow r) x xs here
    | inr later ↦ Any-later (Decides schema allow r) x xs (of-statements d (s + 1) xs later)
  ]

  -- a document has a statement that decides
  abbrev DocumentDecides : Document → Type 0
  DocumentDecides d = Any (Decides schema allow r) d.statements

  named-documents : (d : ℕ) (xs : List Document) → SomeDecides schema allow r xs → Any (NamedDecides schema allow r) (named_documents d xs)
  named-documents d [] some = absurd (Any-nil DocumentDecides some)
  named-documents d (x ∷ xs) some = elim (Any-split DocumentDecides x xs some) [
    | inl here ↦ Any-front (NamedDecides schema allow r) (named_statements d 1 x.statements) (named_documents (d + 1) xs) (named-statements d 1 x.statements here)
    | inr later ↦ Any-behind (NamedDecides schema allow r) (named_statements d 1 x.statements) (named_documents (d + 1) xs) (named-documents (d + 1) xs later)
  ]

  of-documents : (d : ℕ) (xs : List Document) → Any (NamedDecides schema allow r) (named_documents d xs) → SomeDecides schema allow r xs
  of-documents d [] some = absurd (Any-nil (NamedDecides schema allow r) some)
  of-documents d (x ∷ xs) some = elim (Any-joined (NamedDecides schema allow r) (named_statements d 1 x.statements) (named_documents (d + 1) xs) some) [
    | inl here ↦ Any-here DocumentDecides x xs (of-statements d 1 x.statements here)
    | inr later ↦ Any-later DocumentDecides x xs (of-documents (d + 1) xs later)
  ]

  named-guards : (d : ℕ) (gs : List (List Document)) → Any (SomeDecides schema allow r) gs → Any (NamedDecides schema allow r) (named_guards d gs)
  named-guards d [] some = absurd (Any-nil (SomeDecides schema allow r) some)
  named-guards d (g ∷ gs) some = elim (Any-split (SomeDecides schema allow r) g gs some) [
    | inl here ↦ Any-front (NamedDecides schema allow r) (named_documents d g) (named_guards (d + length g) gs) (named-documents d g here)
    | inr later ↦ Any-behind (NamedDecides schema allow r) (named_documents d g) (named_guards (d + length g) gs) (named-guards (d + length g) gs later)
  ]

  of-guards : (d : ℕ) (gs : List (List Document)) → Any (NamedDecides schema allow r) (named_guards d gs) → Any (SomeDecides schema allow r) gs
  of-guards d [] some = absurd (Any-nil (NamedDecides schema allow r) some)
  of-guards d (g ∷ gs) some = elim (Any-joined (NamedDecides schema allow r) (named_documents d g) (named_guards (d + length g) gs) some) [
    | inl here ↦ Any-here (SomeDecides schema allow r) g gs (of-documents d g here)
    | inr later ↦ Any-later (SomeDecides schema allow r) g gs (of-guards (d + length g) gs later)
  ]

  -- the first is one
  some-of-first : (xs : List Named) (name : StatementName) → IsFirstDeciding schema allow r xs name → Any (NamedDecides schema allow r) xs
  some-of-first xs name first =
      subst (λ (ys : List Named). Any (NamedDecides schema allow r) ys) (sym first.is)
      (Any-behind (NamedDecides schema allow r) first.before ((name, first.statement) ∷ first.after)
      (Any-here (NamedDecides schema allow r) (name, first.statement) first.after first.here))

module _ (schema : Schema) (set : PolicySet) (r : Request) where
  -- no Deny statement of the set applies
  not-denied : NoneDecides schema false r (named_set set) → ¬ SomeDecides schema false r set.grants
  not-denied none some = None-of (NamedDecides schema false r) (named_set set) none
      (Any-front (NamedDecides schema false r) (named_grants set) (named_guards (1 + length set.grants) set.guards) (named-documents schema false r 1 set.grants some))

  not-denied-by-guard : NoneDecides schema false r (named_set set) → ¬ Any (SomeDecides schema false r) set.guards
  not-denied-by-guard none some = None-of (NamedDecides schema false r) (named_set set) none
      (Any-behind (NamedDecides schema false r) (named_grants set) (named_guards (1 + length set.grants) set.guards) (named-guards schema false r (1 + length set.grants) set.guards some))

  denied : (name : StatementName) → IsFirstDeciding schema false r (named_set set) name → ¬ Allows schema set r
  denied name first allows = elim (Any-joined (NamedDecides schema false r) (named_grants set) (named_guards (1 + length set.grants) set.guards) (some-of-first schema false r (named_set set) name first)) [
    | inl grants ↦ allows.not_denied (of-documents schema false r 1 set.grants grants)
    | inr guards ↦ allows.not_denied_by_guard (of-guards schema false r (1 + length set.grants) set.guards guards)
  ]

  allowed : (name : StatementName) → IsAllowedBy schema set r name → Allows schema set r
  allowed name by = record {
    granted = of-documents schema true r 1 set.grants (some-of-first schema true r (named_grants set) name by.first);
    guarded = by.guarded;
    not_denied = not-denied by.not_denied;
    not_denied_by_guard = not-denied-by-guard by.not_denied;
  }

  pub tells-what-is-allowed : (d : Decider) → DecidesWhatIsAllowed schema set r d
  tells-what-is-allowed (by.Statement name) = (denied name, allowed name)
  tells-what-is-allowed by.NoGrant =
      λ lacks allows. None-of (NamedDecides schema true r) (named_grants set) lacks.not_granted (named-documents schema true r 1 set.grants allows.granted)
  tells-what-is-allowed (by.NoGuard g) = λ lacks allows. none-silent schema r set.guards g allows.guarded lacks.silent
