-- The uses of a set's conditions: what some condition passes, and the same uses in the other set's place.
use Rattle.std.proofs.Common.{◌≡◌, ℕ, ◌+◌, ◌||◌, List, [], ◌∷◌, ◌++◌, length, map, Bool, true, false, Any, refl, ap, sym, ◌∙◌, inl, inr, ◌⊎◌}
use Rattle.std.specs.List.{list_any}
use Rattle.std.proofs.lemmas.List.{map-append}
use Rattle.std.proofs.lemmas.List.Concat.{flat_map-append}
use Rattle.std.proofs.lemmas.List.Folds.{list_any-append}
use Rattle.policy_model.specs.StatementNames.{Named, name_of, named_documents, named_grants, named_guards, named_set, named_statements}
use Rattle.policy_model.specs.declared.operator.Condition.{Condition}
use Rattle.policy_model.specs.declared.set.Document.{Document}
use Rattle.policy_model.specs.declared.set.PolicySet.{PolicySet}
use Rattle.policy_model.specs.declared.set.Statement.{Statement}
use Rattle.policy_model.specs.declared.set.StatementName.{StatementName}
use Rattle.policy_model.proofs.Laws.{Any-nil, Any-split}
use Rattle.policy_compile.specs.Asked.{SomeStatementIn, SomeStatementOf}
use Rattle.request_schema.specs.Uses.{Use, use_of, uses_in, uses_of_statement, uses_of_statements}

-- ---- some condition

or-left : (a c : Bool) → a ≡ true → (a || c) ≡ true
or-left true c e = refl
or-left false c e = absurd (cc)

or-right : (a c : Bool) → c ≡ true → (a || c) ≡ true
or-right true c e = refl
or-right false c e = e

module _ (test : Condition → Bool) (b : Bool) where
  abbrev tested : Use → Bool
  tested u = test u.condition

  abbrev Passes : Condition → Type 0
  Passes c = test c ≡ true

  abbrev SomePasses : Statement → Type 0
  SomePasses s = Any Passes s.conditions

  left : (xs ys : List Use) → list_any tested xs ≡ true → list_any tested (xs ++ ys) ≡ true
  left xs ys e = list_any-append tested xs ys ∙ or-left (list_any tested xs) (list_any tested ys) e

  right : (xs ys : List Use) → list_any tested ys ≡ true → list_any tested (xs ++ ys) ≡ true
  right xs ys e = list_any-append tested xs ys ∙ or-right (list_any tested xs) (list_any tested ys) e

  either : (xs ys : List Named) → (list_any tested (uses_of_statements b xs) ≡ true) ⊎ (list_any tested (uses_of_statements b ys) ≡ true) → list_any tested (uses_of_statements b (xs ++ ys)) ≡ true
  either xs ys (inl here) = ap (list_any tested) (flat_map-append (uses_of_statement b) xs ys) ∙ left (uses_of_statements b xs) (uses_of_statements b ys) here
  either xs ys (inr there) = ap (list_any tested) (flat_map-append (uses_of_statement b) xs ys) ∙ right (uses_of_statements b xs) (uses_of_statements b ys) there

  some-condition : (n : StatementName) (cs : List Condition) → Any Passes cs → list_any tested (map (use_of b n) cs) ≡ true
  some-condition n [] some = absurd (Any-nil Passes some)
  some-condition n (c ∷ cs) some = elim (Any-split Passes c cs some) [
    | inl here ↦ or-left (test c) (list_any tested (map (use_of b n) cs)) here
    | inr later ↦ or-right (test c) (list_any tested (map (use_of b n) cs)) (some-condition n cs later)
  ]

  some-statement : (d i : ℕ) (xs : List Statement) → Any SomePasses xs → list_any tested (uses_of_statements b (named_statements d i xs)) ≡ true
  some-statement d i [] some = absurd (Any-nil SomePasses some)
  some-statement d i (x ∷ xs) some =
      let own = map (use_of b (name_of d i)) x.conditions in
      let rest = uses_of_statements b (named_statements d (i + 1) xs) in
      elim (Any-split SomePasses x xs some) [
        | inl here ↦ left own rest (some-condition (name_of d i) x.conditions here)
        | inr later ↦ right own rest (some-statement d (i + 1) xs later)
      ]

  some-document : (d : ℕ) (xs : List Document) → SomeStatementIn SomePasses xs → list_any tested (uses_of_statements b (named_documents d xs)) ≡ true
  some-document d [] some = absurd (Any-nil (λ (x : Document). Any SomePasses x.statements) some)
  some-document d (x ∷ xs) some = elim (Any-split (λ (y : Document). Any SomePasses y.statements) x xs some) [
    | inl here ↦ either (named_statements d 1 x.statements) (named_documents (d + 1) xs) (inl (some-statement d 1 x.statements here))
    | inr later ↦ either (named_statements d 1 x.statements) (named_documents (d + 1) xs) (inr (some-document (d + 1) xs later))
  ]

  some-guard : (d : ℕ) (xs : List (List Document)) → Any (SomeStatementIn SomePasses) xs → list_any tested (uses_of_statements b (named_guards d xs)) ≡ true
  some-guard d [] some = absurd (Any-nil (SomeStatementIn SomePasses) some)
  some-guard d (x ∷ xs) some = elim (Any-split (SomeStatementIn SomePasses) x xs some) [
    | inl here ↦ either (named_documents d x) (named_guards (d + length x) xs) (inl (some-document d x here))
    | inr later ↦ either (named_documents d x) (named_guards (d + length x) xs) (inr (some-guard (d + length x) xs later))
  ]

  -- some condition of some statement passes, so some use does
  pub some-use : (set : PolicySet) → SomeStatementOf (λ s. Any (λ c. test c ≡ true) s.conditions) set → list_any (λ u. test u.condition) (uses_in b set) ≡ true
  some-use set (inl granted) = either (named_grants set) (named_guards (1 + length set.grants) set.guards) (inl (some-document 1 set.grants granted))
  some-use set (inr guarded) = either (named_grants set) (named_guards (1 + length set.grants) set.guards) (inr (some-guard (1 + length set.grants) set.guards guarded))

-- ---- the same uses, of the second set

abbrev pub moved : Use → Use
moved u = use_of true u.name u.condition

moved-statement : (n : StatementName) (cs : List Condition) → map (use_of true n) cs ≡ map moved (map (use_of false n) cs)
moved-statement n [] = refl
moved-statement n (c ∷ cs) = ap (λ (us : List Use). use_of true n c ∷ us) (moved-statement n cs)

moved-statements : (xs : List Named) → uses_of_statements true xs ≡ map moved (uses_of_statements false xs)
moved-statements [] = refl
moved-statements (x ∷ xs) =
    ap (λ (us : List Use). us ++ uses_of_statements true xs) (moved-statement x.0 x.1.conditions)
    ∙ ap (λ (us : List Use). map moved (uses_of_statement false x) ++ us) (moved-statements xs)
    ∙ sym (map-append moved (uses_of_statement false x) (uses_of_statements false xs))

pub uses-moved : (set : PolicySet) → uses_in true set ≡ map moved (uses_in false set)
uses-moved set = moved-statements (named_set set)
