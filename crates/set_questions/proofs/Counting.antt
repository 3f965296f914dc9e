-- The names of statements, taken one by one, and the documents of guards.
use Rattle.std.proofs.Common.{◌≡◌, ◌+◌, ◌-◌, ◌<◌, ◌≤◌, ℕ, suc, zero, Bool, List, [], ◌∷◌, ◌++◌, Option, if◌then◌else◌, length, get_or, drop, map, slice_get, refl, ap, sym, ◌∙◌, arith}
use Rattle.std.proofs.Math.Seq.{drop-cons}
use Rattle.std.proofs.lemmas.List.{append_assoc}
use Rattle.policy_model.specs.declared.set.Document.{Document}
use Rattle.policy_model.specs.declared.set.Statement.{Statement}
use Rattle.policy_model.specs.declared.set.StatementName.{StatementName}
use Rattle.policy_model.specs.StatementNames.{Named, name_of, named_statements}
use Rattle.set_questions.specs.Requirements.{has_effect, names_with}
use Rattle.set_questions.specs.SetDocuments.{guard_documents}

-- the names alone
abbrev pub names_in : List Named → List StatementName
names_in ns = map (λ n. n.0) ns

pub statements-next : (e : Option Bool) (d i : ℕ) (names whole : List StatementName) (xs : List Statement) (x : Statement) → i < length xs → names ++ names_with e (named_statements d (1 + i) (drop i xs)) ≡ whole →
    (names ++ (if has_effect e (get_or xs i x).allow then name_of d (i + 1) ∷ [] else [])) ++ names_with e (named_statements d (1 + (i + 1)) (drop (i + 1) xs)) ≡ whole
statements-next e d i names whole xs x h so_far =
    let step : suc i ≡ i + 1 = omega arith in
    let number : 1 + i ≡ i + 1 = omega arith in
    let next : 1 + i + 1 ≡ 1 + (i + 1) = omega arith in
    let wanted = has_effect e (get_or xs i x).allow in
    let here : names_with e (named_statements d (1 + i) (drop i xs)) ≡ (if wanted then name_of d (1 + i) ∷ [] else []) ++ names_with e (named_statements d (1 + i + 1) (drop (suc i) xs)) = rw (drop-cons xs i x h) refl in
    let there : names_with e (named_statements d (1 + i) (drop i xs)) ≡ (if wanted then name_of d (i + 1) ∷ [] else []) ++ names_with e (named_statements d (1 + (i + 1)) (drop (i + 1) xs)) =
    here
    ∙ ap (λ k. (if wanted then name_of d k ∷ [] else []) ++ names_with e (named_statements d (1 + i + 1) (drop (suc i) xs))) number
    ∙ ap (λ k. (if wanted then name_of d (i + 1) ∷ [] else []) ++ names_with e (named_statements d k (drop (suc i) xs))) next
    ∙ ap (λ k. (if wanted then name_of d (i + 1) ∷ [] else []) ++ names_with e (named_statements d (1 + (i + 1)) (drop k xs))) step in
    append_assoc names (if wanted then name_of d (i + 1) ∷ [] else []) (names_with e (named_statements d (1 + (i + 1)) (drop (i + 1) xs))) ∙ ap (λ ns. names ++ ns) (sym there) ∙ so_far

-- ---- the document at an index of guards

pub slice_get-front : {T : Type 0} (xs ys : List T) (i : ℕ) → i < length xs → slice_get (xs ++ ys) i ≡ slice_get xs i
slice_get-front [] ys i h = absurd (omega (arith, h))
slice_get-front (x ∷ xs) ys zero h = refl
slice_get-front (x ∷ xs) ys (suc i) h = slice_get-front xs ys i (omega (arith, h))

pub slice_get-behind : {T : Type 0} (xs ys : List T) (i : ℕ) → length xs ≤ i → slice_get (xs ++ ys) i ≡ slice_get ys (i - length xs)
slice_get-behind [] ys i h = let e : i - 0 ≡ i = omega arith in rw e refl
slice_get-behind (x ∷ xs) ys zero h = absurd (omega (arith, h))
slice_get-behind (x ∷ xs) ys (suc i) h = let e : suc i - suc (length xs) ≡ i - length xs = omega arith in rw e (slice_get-behind xs ys i (omega (arith, h)))

pub in-guard : (i n : ℕ) (gs : List (List Document)) (g : List Document) → i < length gs → n < length (get_or gs i g) → slice_get (guard_documents (drop i gs)) n ≡ slice_get (get_or gs i g) n
in-guard i n gs g h here = rw (drop-cons gs i g h) (slice_get-front (get_or gs i g) (guard_documents (drop (suc i) gs)) n here)

pub behind-guard : (i n : ℕ) (gs : List (List Document)) (g : List Document) → i < length gs → length (get_or gs i g) ≤ n → slice_get (guard_documents (drop i gs)) n ≡ slice_get (guard_documents (drop (i + 1) gs)) (n - length (get_or gs i g))
behind-guard i n gs g h past = let e : i + 1 ≡ suc i = omega arith in rw (e, drop-cons gs i g h) (slice_get-behind (get_or gs i g) (guard_documents (drop (suc i) gs)) n past)
