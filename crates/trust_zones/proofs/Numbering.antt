-- The names of a set's statements where one more document stands behind the grants: those of the guards have the next document's number.
use Rattle.std.proofs.Common.{◌≡◌, ◌+◌, ℕ, List, [], ◌∷◌, ◌++◌, length, map, false, refl, ap, ap₂, sym, ◌∙◌, arith, append_assoc}
use Rattle.std.proofs.lemmas.List.{length-append, map-append}
use Rattle.std.proofs.lemmas.List.Concat.{flat_map-append}
use Rattle.policy_model.specs.StatementNames.{Named, name_of, named_documents, named_grants, named_guards, named_statements}
use Rattle.policy_model.specs.declared.operator.Condition.{Condition}
use Rattle.policy_model.specs.declared.set.Document.{Document}
use Rattle.policy_model.specs.declared.set.PolicySet.{PolicySet}
use Rattle.policy_model.specs.declared.set.Statement.{Statement}
use Rattle.policy_model.specs.declared.set.StatementName.{StatementName}
use Rattle.request_schema.specs.Uses.{Use, use_of, uses_in, uses_of_statement, uses_of_statements}
use Rattle.trust_zones.specs.Zones.{with_document}
use Rattle.request_schema.proofs.Laws.{renamed}

-- of the next document
abbrev next : StatementName → StatementName
next name = name_of (name.document + 1) name.statement

abbrev moved : Named → Named
moved named = (next named.0, named.1)

-- a use of the same condition by the next document's name
abbrev pub later : Use → Use
later = renamed (λ u. u.second) (λ u. next u.name)

-- ---- numbers

moved-statements : (d i : ℕ) (xs : List Statement) → named_statements (d + 1) i xs ≡ map moved (named_statements d i xs)
moved-statements d i [] = refl
moved-statements d i (x ∷ xs) = ap (λ (ns : List Named). (name_of (d + 1) i, x) ∷ ns) (moved-statements d (i + 1) xs)

moved-documents : (d : ℕ) (xs : List Document) → named_documents (d + 1) xs ≡ map moved (named_documents d xs)
moved-documents d [] = refl
moved-documents d (x ∷ xs) =
    ap₂ (λ (a b : List Named). a ++ b) (moved-statements d 1 x.statements) (moved-documents (d + 1) xs) ∙ sym (map-append moved (named_statements d 1 x.statements) (named_documents (d + 1) xs))

moved-guards : (d : ℕ) (gs : List (List Document)) → named_guards (d + 1) gs ≡ map moved (named_guards d gs)
moved-guards d [] = refl
moved-guards d (g ∷ gs) =
    let same : d + 1 + length g ≡ d + length g + 1 = omega arith in
    ap₂ (λ (a b : List Named). a ++ b) (moved-documents d g) (ap (λ (n : ℕ). named_guards n gs) same ∙ moved-guards (d + length g) gs)
    ∙ sym (map-append moved (named_documents d g) (named_guards (d + length g) gs))

documents-behind : (d : ℕ) (xs ys : List Document) → named_documents d (xs ++ ys) ≡ named_documents d xs ++ named_documents (d + length xs) ys
documents-behind d [] ys = let same : d ≡ d + length {A = Document} [] = omega arith in ap (λ (n : ℕ). named_documents n ys) same
documents-behind d (x ∷ xs) ys =
    let own = named_statements d 1 x.statements in
    let same : d + 1 + length xs ≡ d + length (x ∷ xs) = omega arith in
    ap (λ (ns : List Named). own ++ ns) (documents-behind (d + 1) xs ys ∙ ap (λ (n : ℕ). named_documents (d + 1) xs ++ named_documents n ys) same)
    ∙ sym (append_assoc own (named_documents (d + 1) xs) (named_documents (d + length (x ∷ xs)) ys))

-- ---- uses

later-conditions : (n : StatementName) (cs : List Condition) → map (use_of false (next n)) cs ≡ map later (map (use_of false n) cs)
later-conditions n [] = refl
later-conditions n (c ∷ cs) = ap (λ (us : List Use). use_of false (next n) c ∷ us) (later-conditions n cs)

later-statements : (xs : List Named) → uses_of_statements false (map moved xs) ≡ map later (uses_of_statements false xs)
later-statements [] = refl
later-statements (x ∷ xs) =
    ap₂ (λ (a b : List Use). a ++ b) (later-conditions x.0 x.1.conditions) (later-statements xs) ∙ sym (map-append later (uses_of_statement false x) (uses_of_statements false xs))

module _ (set : PolicySet) where
  abbrev pub granted : List Use
  granted = uses_of_statements false (named_grants set)

  abbrev pub guarded : List Use
  guarded = uses_of_statements false (named_guards (1 + length set.grants) set.guards)

  pub uses-parted : uses_in false set ≡ granted ++ guarded
  uses-parted = flat_map-append (uses_of_statement false) (named_grants set) (named_guards (1 + length set.grants) set.guards)

  module _ (d : Document) where
    -- those of one more document
    abbrev pub added : List Use
    added = uses_of_statements false (named_documents (1 + length set.grants) (d ∷ []))

    -- they stand behind those of the grants, and those of the guards have later names
    pub uses-with : uses_in false (with_document set d) ≡ (granted ++ added) ++ map later guarded
    uses-with =
        let grants = named_grants set in
        let own = named_documents (1 + length set.grants) (d ∷ []) in
        let guards = named_guards (1 + length set.grants) set.guards in
        let pushed = length-append set.grants (d ∷ []) in
        let count : 1 + length (set.grants ++ d ∷ []) ≡ 1 + length set.grants + 1 = omega (arith, pushed) in
        ap₂ (λ (a b : List Named). uses_of_statements false (a ++ b)) (documents-behind 1 set.grants (d ∷ [])) (ap (λ (n : ℕ). named_guards n set.guards) count ∙ moved-guards (1 + length set.grants) set.guards)
        ∙ flat_map-append (uses_of_statement false) (grants ++ own) (map moved guards)
        ∙ ap₂ (λ (a b : List Use). a ++ b) (flat_map-append (uses_of_statement false) grants own) (later-statements guards)
