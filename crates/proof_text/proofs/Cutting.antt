-- A joined text cut again, and lines.
use Rattle.std.proofs.Common.{◌≡◌, ℕ, ◌≤◌, Bool, true, false, List, [], ◌∷◌, ◌++◌, length, map, flat_map, Some, option_map, All, refl, ap, ◌∙◌, arith, eqb, if◌then◌else◌}
use Rattle.std.proofs.lemmas.List.{append_assoc, length-append}
use Rattle.std.proofs.lemmas.List.Splits.{slice_split_at, slice_split_none}
use Rattle.std.proofs.lemmas.List.Elements.{All-head, All-tail, All-append, All-cons, All-nil}
use Rattle.std.proofs.lemmas.Bool.Decides.{Decides-eqb}
use Rattle.std.specs.List.{onto_first, slice_split, join_with_byte}
use Rattle.proof_text.specs.LineForms.{content_of, lines_of}

-- no part has the byte
abbrev pub IsFree : ℕ → List ℕ → Type 0
IsFree c part = All (λ b. eqb b c ≡ false) part

pub split-join : (c : ℕ) (part : List ℕ) (parts : List (List ℕ)) → All (IsFree c) (part ∷ parts) → slice_split (λ b. eqb b c) (join_with_byte c (part ∷ parts)) ≡ part ∷ parts
split-join c part [] free = slice_split_none (λ b. eqb b c) part (All-head (IsFree c) part [] free)
split-join c part (next ∷ parts) free =
    let front : IsFree c part = All-head (IsFree c) part (next ∷ parts) free in
    let rest : All (IsFree c) (next ∷ parts) = All-tail (IsFree c) part (next ∷ parts) free in
    slice_split_at (λ b. eqb b c) part c (join_with_byte c (next ∷ parts)) front ((Decides-eqb c c).1 refl) ∙ ap (λ ps. part ∷ ps) (split-join c next parts rest)

-- a joined text has no byte that no part has, and that doesn't join them
pub joined-free : (b c : ℕ) (parts : List (List ℕ)) → eqb c b ≡ false → All (IsFree b) parts → IsFree b (join_with_byte c parts)
joined-free b c [] other free = All-nil (λ x. eqb x b ≡ false)
joined-free b c (part ∷ []) other free = All-head (IsFree b) part [] free
joined-free b c (part ∷ next ∷ parts) other free =
    let front : IsFree b part = All-head (IsFree b) part (next ∷ parts) free in
    let rest : All (IsFree b) (next ∷ parts) = All-tail (IsFree b) part (next ∷ parts) free in
    All-append (λ x. eqb x b ≡ false) part (c ∷ join_with_byte c (next ∷ parts)) front
    (All-cons (λ x. eqb x b ≡ false) c (join_with_byte c (next ∷ parts)) other (joined-free b c (next ∷ parts) other rest))

-- ---- lines

onto-line : (b : ℕ) (r : Bool) (ls : List (List ℕ)) (bs : List ℕ) → r ≡ false → (if r then (b ∷ []) ∷ lines_of bs else onto_first b (lines_of bs)) ≡ onto_first b (lines_of bs)
onto-line b true ls bs e = absurd (cc)
onto-line b false ls bs e = refl

-- the first line ends at the first line feed
pub line-again : (content rest : List ℕ) → IsFree 10 content → lines_of ((content ++ 10 ∷ []) ++ rest) ≡ (content ++ 10 ∷ []) ∷ lines_of rest
line-again [] rest free = refl
line-again (b ∷ content) rest free =
    let other : eqb b 10 ≡ false = All-head (λ x. eqb x 10 ≡ false) b content free in
    let later : IsFree 10 content = All-tail (λ x. eqb x 10 ≡ false) b content free in
    onto-line b (eqb b 10) [] ((content ++ 10 ∷ []) ++ rest) other ∙ ap (onto_first b) (line-again content rest later)

pub lines-again : {A : Type 0} (content : A → List ℕ) (ls : List A) (rest : List ℕ) → All (λ l. IsFree 10 (content l)) ls →
    lines_of (flat_map (λ l. content l ++ 10 ∷ []) ls ++ rest) ≡ map (λ l. content l ++ 10 ∷ []) ls ++ lines_of rest
lines-again content [] rest free = refl
lines-again content (l ∷ ls) rest free =
    let front : IsFree 10 (content l) = All-head (λ m. IsFree 10 (content m)) l ls free in
    let later = lines-again content ls rest (All-tail (λ m. IsFree 10 (content m)) l ls free) in
    ap lines_of (append_assoc (content l ++ 10 ∷ []) (flat_map (λ m. content m ++ 10 ∷ []) ls) rest) ∙
    line-again (content l) (flat_map (λ m. content m ++ 10 ∷ []) ls ++ rest) front ∙ ap (λ r. (content l ++ 10 ∷ []) ∷ r) later

-- the content of a line is before its end
pub content-again : (content : List ℕ) → content_of (content ++ 10 ∷ []) ≡ Some content
content-again [] = refl
content-again (b ∷ []) = refl
content-again (b ∷ c ∷ content) = ap (option_map (λ r. b ∷ r)) (content-again (c ∷ content))

-- there are at most as many lines as bytes
pub lines-few : {A : Type 0} (content : A → List ℕ) (ls : List A) → length ls ≤ length (flat_map (λ l. content l ++ 10 ∷ []) ls)
lines-few content [] = omega arith
lines-few content (l ∷ ls) =
    let later = lines-few content ls in
    simp (length-append) (omega arith)
