-- Uses that are found statement by statement: what is found so far and what is left are all.
use Rattle.std.proofs.Common.{◌≡◌, ◌<◌, ◌≤◌, ◌+◌, ℕ, suc, Bool, List, [], ◌∷◌, ◌++◌, length, map, drop, get_or, append-nil, refl, ap, sym, ◌∙◌, arith}
use Rattle.std.proofs.Math.Seq.{drop-cons}
use Rattle.std.proofs.lemmas.List.{append_assoc, drop_all, map-append}
use Rattle.std.proofs.lemmas.Grind.{flat_map-append}
use Rattle.policy_model.specs.declared.operator.Condition.{Condition}
use Rattle.policy_model.specs.declared.set.Statement.{Statement}
use Rattle.policy_model.specs.declared.set.StatementName.{StatementName}
use Rattle.policy_model.specs.declared.set.Document.{Document}
use Rattle.policy_model.specs.StatementNames.{name_of, named_documents, named_guards, named_statements}
use Rattle.request_schema.specs.Uses.{Use, use_found, use_of, uses_found, uses_of_statement, uses_of_statements}
use Rattle.request_schema.specs.declared.found.FoundUse.{FoundUse}

-- the next part is found
pub part-found : (got new part rest next whole : List Use) → new ≡ got ++ part → rest ≡ part ++ next → got ++ rest ≡ whole → new ++ next ≡ whole
part-found got new part rest next whole grown is so_far =
    ap (λ (xs : List Use). xs ++ next) grown ∙ append_assoc got part next ∙ ap (λ (xs : List Use). got ++ xs) (sym is) ∙ so_far

-- nothing is left
pub all-found : (got rest whole : List Use) → rest ≡ [] → got ++ rest ≡ whole → got ≡ whole
all-found got rest whole none so_far = sym (append-nil got) ∙ ap (λ (xs : List Use). got ++ xs) (sym none) ∙ so_far

-- one use is pushed
pub pushed-use : (items new : List FoundUse) (x : FoundUse) → new ≡ items ++ x ∷ [] → uses_found new ≡ uses_found items ++ use_found x ∷ []
pushed-use items new x is = ap uses_found is ∙ map-append use_found items (x ∷ [])

-- ---- what is left, from an index on

pub conditions-left : (second : Bool) (name : StatementName) (i : ℕ) (xs : List Condition) (x : Condition) → i < length xs → x ≡ get_or xs i x → map (use_of second name) (drop i xs) ≡ use_of second name x ∷ map (use_of second name) (drop (i + 1) xs)
conditions-left second name i xs x within is =
    let e : i + 1 ≡ suc i = omega arith in
    let d : drop i xs ≡ get_or xs i x ∷ drop (i + 1) xs = rw (e, drop-cons xs i x) refl in
    ap (map (use_of second name)) d ∙ ap (λ (c : Condition). use_of second name c ∷ map (use_of second name) (drop (i + 1) xs)) (sym is)

pub statements-left : (second : Bool) (d s i : ℕ) (xs : List Statement) (x : Statement) → i < length xs → x ≡ get_or xs i x →
    uses_of_statements second (named_statements d s (drop i xs)) ≡ map (use_of second (name_of d s)) x.conditions ++ uses_of_statements second (named_statements d (s + 1) (drop (i + 1) xs))
statements-left second d s i xs x within is =
    let e : i + 1 ≡ suc i = omega arith in
    let split : drop i xs ≡ get_or xs i x ∷ drop (i + 1) xs = rw (e, drop-cons xs i x) refl in
    ap (λ (ys : List Statement). uses_of_statements second (named_statements d s ys)) split
    ∙ ap (λ (y : Statement). map (use_of second (name_of d s)) y.conditions ++ uses_of_statements second (named_statements d (s + 1) (drop (i + 1) xs))) (sym is)

pub documents-left : (second : Bool) (d i : ℕ) (xs : List Document) (x : Document) → i < length xs → x ≡ get_or xs i x →
    uses_of_statements second (named_documents d (drop i xs)) ≡ uses_of_statements second (named_statements d 1 x.statements) ++ uses_of_statements second (named_documents (d + 1) (drop (i + 1) xs))
documents-left second d i xs x within is =
    let e : i + 1 ≡ suc i = omega arith in
    let split : drop i xs ≡ get_or xs i x ∷ drop (i + 1) xs = rw (e, drop-cons xs i x) refl in
    ap (λ (ys : List Document). uses_of_statements second (named_documents d ys)) split
    ∙ ap (λ (y : Document). uses_of_statements second (named_statements d 1 y.statements ++ named_documents (d + 1) (drop (i + 1) xs))) (sym is)
    ∙ flat_map-append (uses_of_statement second) (named_statements d 1 x.statements) (named_documents (d + 1) (drop (i + 1) xs))

pub guards-left : (second : Bool) (d i : ℕ) (xs : List (List Document)) (x : List Document) → i < length xs → x ≡ get_or xs i x →
    uses_of_statements second (named_guards d (drop i xs)) ≡ uses_of_statements second (named_documents d x) ++ uses_of_statements second (named_guards (d + length x) (drop (i + 1) xs))
guards-left second d i xs x within is =
    let e : i + 1 ≡ suc i = omega arith in
    let split : drop i xs ≡ get_or xs i x ∷ drop (i + 1) xs = rw (e, drop-cons xs i x) refl in
    ap (λ (ys : List (List Document)). uses_of_statements second (named_guards d ys)) split
    ∙ ap (λ (y : List Document). uses_of_statements second (named_documents d y ++ named_guards (d + length y) (drop (i + 1) xs))) (sym is)
    ∙ flat_map-append (uses_of_statement second) (named_documents d x) (named_guards (d + length x) (drop (i + 1) xs))

-- ---- no item is left

pub no-conditions : (second : Bool) (name : StatementName) (i : ℕ) (xs : List Condition) → length xs ≤ i → map (use_of second name) (drop i xs) ≡ []
no-conditions second name i xs past = ap (map (use_of second name)) (drop_all i xs past)

pub no-statements : (second : Bool) (d s i : ℕ) (xs : List Statement) → length xs ≤ i → uses_of_statements second (named_statements d s (drop i xs)) ≡ []
no-statements second d s i xs past = ap (λ (ys : List Statement). uses_of_statements second (named_statements d s ys)) (drop_all i xs past)

pub no-documents : (second : Bool) (d i : ℕ) (xs : List Document) → length xs ≤ i → uses_of_statements second (named_documents d (drop i xs)) ≡ []
no-documents second d i xs past = ap (λ (ys : List Document). uses_of_statements second (named_documents d ys)) (drop_all i xs past)

pub no-guards : (second : Bool) (d i : ℕ) (xs : List (List Document)) → length xs ≤ i → uses_of_statements second (named_guards d (drop i xs)) ≡ []
no-guards second d i xs past = ap (λ (ys : List (List Document)). uses_of_statements second (named_guards d ys)) (drop_all i xs past)
