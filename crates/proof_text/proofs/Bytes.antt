-- Texts byte by byte: digits, parts and lines.
use Rattle.std.proofs.Common.{◌≡◌, ℕ, ◌+◌, ◌-◌, ◌*◌, ◌<◌, ◌≤◌, Bool, true, false, List, [], ◌∷◌, ◌++◌, length, get_or, take, drop, Option, Some, None, is_some, MatchOption, Ok, Bor, All, eqb, refl, sym, ap, ◌∙◌, arith, if◌then◌else◌}
use Rattle.std.proofs.Math.Seq.{take-length}
use Rattle.std.proofs.lemmas.Bool.{eq-eqb, eqb-true, le-leb, lt-leb}
use Rattle.std.proofs.lemmas.Int.Digits.{digits_value_more}
use Rattle.std.proofs.lemmas.List.{drop_all, drop_more, get_or-take, length-take-le, take-append-drop, take_more}
use Rattle.std.proofs.lemmas.List.Elements.{All-from_get_or, All-head, All-tail}
use Rattle.std.proofs.lemmas.List.Splits.{slice_split_at, slice_split_none}
use Rattle.std.proofs.lemmas.List.Sums.{fails_before_first, passes_at_first, position_or_len_is}
use Rattle.std.proofs.lemmas.Str.{digit_value_digit}
use Rattle.std.proofs.lemmas.Str.Parse.{IsNumeralModel, numerals_by_value, tells_all_ascii_digits, digit_at, digits_value-take-le}
use Rattle.std.specs.Int.{IsInRange}
use Rattle.std.specs.List.{onto_first, position_or_len, slice_split}
use Rattle.std.specs.Option.{option_copied}
use Rattle.std.specs.Str.{all_ascii_digits}
use Rattle.std.specs.Str.Parse.{digits_value}
use Rattle.proof_text.specs.LineForms.{is_number, lines_of, number_said, numbers_of, one_number, some_numbers}
use Rattle.proof_text.specs.Steps.{IsSmallRead, is_small, parts_left}
use Rattle.proof_text.specs.declared.limits.TheConstants.{MOST_NUMBER}

-- ---- digits

pub own : IsNumeralModel (λ ds. all_ascii_digits ds ≡ true) (digits_value 10)
own = numerals_by_value (λ ds. all_ascii_digits ds ≡ true) tells_all_ascii_digits

-- a digit's code
pub digit-code : (ds : List ℕ) (i : ℕ) → all_ascii_digits ds ≡ true → i < length ds → IsInRange 48 57 (get_or ds i 0)
digit-code ds i digits within = digit_at ds i (own.to ds digits) within

-- one digit more
pub value-more : (ds : List ℕ) (i value : ℕ) → all_ascii_digits ds ≡ true → i < length ds → value ≡ digits_value 10 (take i ds) → value * 10 + (get_or ds i 0 - 48) ≡ digits_value 10 (take (i + 1) ds)
value-more ds i value digits within so_far =
    let next = digits_value_more 10 ds i within in
    let code = digit_value_digit (get_or ds i 0) (digit-code ds i digits within) in
    omega (arith, next, code, so_far)

-- digits in front make no larger number than all
pub value-front : (ds : List ℕ) (i : ℕ) → digits_value 10 (take i ds) ≤ digits_value 10 ds
value-front ds i = digits_value-take-le 10 ds i (omega arith)

pub number-is : (part : List ℕ) → is_number part ≡ true → number_said part ≡ Some (digits_value 10 part)
number-is part e = rw e

pub number-read : (part : List ℕ) (r : Option ℕ) → is_number part ≡ true → MatchOption r (MOST_NUMBER < digits_value 10 part) (λ n. (n ≡ digits_value 10 part) × (n ≤ MOST_NUMBER)) → IsSmallRead is_small (number_said part) (Ok r)
number-read part None e h = (digits_value 10 part, number-is part e, lt-leb _ _ h)
number-read part (Some n) e h = (number-is part e ∙ ap Some (sym h.0), le-leb _ _ h.1)

-- ---- what stands before the first of a byte

others-before : (c : ℕ) (bs : List ℕ) (i : ℕ) → i ≤ length bs → i ≡ position_or_len (λ b. eqb b c) bs → All (λ b. eqb b c ≡ false) (take i bs)
others-before c bs i within is =
    let count = length-take-le i bs within in
    All-from_get_or (λ b. eqb b c ≡ false) (take i bs) 0 (λ k h. ap (λ b. eqb b c) (get_or-take i bs k 0 (omega (arith, count, h))) ∙ fails_before_first (λ b. eqb b c) bs k 0 (omega (arith, is, count, h)))

others-all : (c : ℕ) (bs : List ℕ) → length bs ≡ position_or_len (λ b. eqb b c) bs → All (λ b. eqb b c ≡ false) bs
others-all c bs is = All-from_get_or (λ b. eqb b c ≡ false) bs 0 (λ k h. fails_before_first (λ b. eqb b c) bs k 0 (omega (arith, is, h)))

byte-at : (c : ℕ) (bs : List ℕ) (i : ℕ) → i < length bs → i ≡ position_or_len (λ b. eqb b c) bs → get_or bs i 0 ≡ c
byte-at c bs i within is =
    eqb-true (get_or bs i 0) c (ap (λ k. eqb (get_or bs k 0) c) is ∙ passes_at_first (λ b. eqb b c) bs 0 (omega (arith, is, within)))

-- a text is what stands before the first such byte, that byte, and what stands behind it
parted : (c : ℕ) (bs : List ℕ) (i : ℕ) → i < length bs → i ≡ position_or_len (λ b. eqb b c) bs → bs ≡ take i bs ++ c ∷ drop (i + 1) bs
parted c bs i within is =
    sym (take-append-drop i bs) ∙ ap (λ r. take i bs ++ r) (drop_more bs i 0 within ∙ ap (λ b. b ∷ drop (i + 1) bs) (byte-at c bs i within is))

pub first-is : (c : ℕ) (bs : List ℕ) (i : ℕ) → i ≤ length bs → ((k : ℕ) → k < i → eqb (get_or bs k 0) c ≡ false) → (i < length bs → eqb (get_or bs i 0) c ≡ true) → i ≡ position_or_len (λ b. eqb b c) bs
first-is c bs i within before here = sym (position_or_len_is (λ b. eqb b c) bs i 0 within before here)

-- ---- parts

pub cut-none : (c : ℕ) (bs : List ℕ) (i : ℕ) → i ≡ position_or_len (λ b. eqb b c) bs → i ≡ length bs → slice_split (λ b. eqb b c) bs ≡ bs ∷ []
cut-none c bs i is all = slice_split_none (λ b. eqb b c) bs (others-all c bs (sym all ∙ is))

pub cut-some : (c : ℕ) (bs : List ℕ) (i : ℕ) (part rest : List ℕ) → i ≡ position_or_len (λ b. eqb b c) bs → i < length bs → part ≡ take i bs → rest ≡ drop (i + 1) bs → slice_split (λ b. eqb b c) bs ≡ part ∷ slice_split (λ b. eqb b c) rest
cut-some c bs i part rest is within front back =
    ap (slice_split (λ b. eqb b c)) (parted c bs i within is) ∙ slice_split_at (λ b. eqb b c) (take i bs) c (drop (i + 1) bs) (others-before c bs i (omega (arith, within)) is) (eq-eqb c c refl) ∙
    ap (λ p. p ∷ slice_split (λ b. eqb b c) (drop (i + 1) bs)) (sym front) ∙ ap (λ r. part ∷ slice_split (λ b. eqb b c) r) (sym back)

some-onto : (b : ℕ) (ends : Bool) (parts : List (List ℕ)) (first : List ℕ) (rest : List (List ℕ)) → parts ≡ first ∷ rest → (part : List ℕ) × (more : List (List ℕ)) × ((if ends then [] ∷ parts else onto_first b parts) ≡ part ∷ more)
some-onto b true parts first rest is = ([], parts, refl)
some-onto b false parts first rest is = (b ∷ first, rest, ap (onto_first b) is)

-- a text has a part
pub some-part : (p : ℕ → Bool) (bs : List ℕ) → (part : List ℕ) × (parts : List (List ℕ)) × (slice_split p bs ≡ part ∷ parts)
some-part p [] = ([], [], refl)
some-part p (b ∷ bs) = let more = some-part p bs in some-onto b (p b) (slice_split p bs) more.0 more.1 more.2

one-of_more : (part : List ℕ) (parts all : List (List ℕ)) (first : List ℕ) (rest : List (List ℕ)) → all ≡ part ∷ parts → parts ≡ first ∷ rest → one_number all ≡ None
one-of_more part parts all first rest is more = let e : all ≡ part ∷ first ∷ rest = is ∙ ap (λ ps. part ∷ ps) more in ap one_number e

-- no number is two parts
pub one-none : (behind : Option (List ℕ)) (text part : List ℕ) (more : Option (List ℕ)) → behind ≡ Some text → slice_split (λ b. eqb b 32) text ≡ part ∷ parts_left 32 more → is_some more ≡ true → one_number (parts_left 32 behind) ≡ None
one-none behind text part None is cut some = cc
one-none behind text part (Some t) is cut some =
    let next = some-part (λ b. eqb b 32) t in
    ap (λ o. one_number (parts_left 32 o)) is ∙ one-of_more part (slice_split (λ b. eqb b 32) t) (slice_split (λ b. eqb b 32) text) next.0 next.1 cut next.2

pub copied-some : (o : Option (Bor (List ℕ))) → is_some o ≡ true → is_some (option_copied o) ≡ true
copied-some None some = some
copied-some (Some t) some = refl

some-of_parts : (parts : List (List ℕ)) (part : List ℕ) (more : List (List ℕ)) → parts ≡ part ∷ more → some_numbers parts ≡ numbers_of parts
some-of_parts [] part more is = cc
some-of_parts (p ∷ ps) part more is = refl

-- what stands behind a word is at least one part
pub some-of : (text : List ℕ) → some_numbers (slice_split (λ b. eqb b 32) text) ≡ numbers_of (slice_split (λ b. eqb b 32) text)
some-of text = let first = some-part (λ b. eqb b 32) text in some-of_parts (slice_split (λ b. eqb b 32) text) first.0 first.1 first.2

-- ---- lines

onto-line : (b : ℕ) (same : Bool) (bs line : List ℕ) (ls : List (List ℕ)) → same ≡ false → lines_of bs ≡ line ∷ ls → (if same then (b ∷ []) ∷ lines_of bs else onto_first b (lines_of bs)) ≡ (b ∷ line) ∷ ls
onto-line b true bs line ls e is = cc
onto-line b false bs line ls e is = rw is

onto-none : (b : ℕ) (same : Bool) → same ≡ false → (if same then (b ∷ []) ∷ lines_of [] else onto_first b (lines_of [])) ≡ (b ∷ []) ∷ []
onto-none b true e = cc
onto-none b false e = refl

lines-parted : (a rest : List ℕ) → All (λ b. eqb b 10 ≡ false) a → lines_of (a ++ 10 ∷ rest) ≡ (a ++ 10 ∷ []) ∷ lines_of rest
lines-parted [] rest others = refl
lines-parted (b ∷ a) rest others =
    let P : ℕ → Type 0 = λ c. eqb c 10 ≡ false in
    onto-line b (eqb b 10) (a ++ 10 ∷ rest) (a ++ 10 ∷ []) (lines_of rest) (All-head P b a others) (lines-parted a rest (All-tail P b a others))

lines-whole : (b : ℕ) (bs : List ℕ) → All (λ c. eqb c 10 ≡ false) (b ∷ bs) → lines_of (b ∷ bs) ≡ (b ∷ bs) ∷ []
lines-whole b [] others = let P : ℕ → Type 0 = λ c. eqb c 10 ≡ false in onto-none b (eqb b 10) (All-head P b [] others)
lines-whole b (c ∷ bs) others =
    let P : ℕ → Type 0 = λ d. eqb d 10 ≡ false in
    onto-line b (eqb b 10) (c ∷ bs) (c ∷ bs) [] (All-head P b (c ∷ bs) others) (lines-whole c bs (All-tail P b (c ∷ bs) others))

lines-alone : (bs : List ℕ) → (bs ≡ [] → ⊥) → All (λ c. eqb c 10 ≡ false) bs → lines_of bs ≡ bs ∷ []
lines-alone [] some others = absurd (some refl)
lines-alone (b ∷ bs) some others = lines-whole b bs others

-- the first line of a file ends with the first line feed
pub line-to-break : (bs : List ℕ) (i : ℕ) → i ≡ position_or_len (λ b. eqb b 10) bs → i < length bs → lines_of bs ≡ take (i + 1) bs ∷ lines_of (drop (i + 1) bs)
line-to-break bs i is within =
    let whole = parted 10 bs i within is in
    let front : take (i + 1) bs ≡ take i bs ++ 10 ∷ [] = take_more bs i 0 within ∙ ap (λ b. take i bs ++ b ∷ []) (byte-at 10 bs i within is) in
    ap lines_of whole ∙ lines-parted (take i bs) (drop (i + 1) bs) (others-before 10 bs i (omega (arith, within)) is) ∙ ap (λ l. l ∷ lines_of (drop (i + 1) bs)) (sym front)

-- or with the file
pub line-to-end : (bs : List ℕ) (i : ℕ) → (bs ≡ [] → ⊥) → i ≡ position_or_len (λ b. eqb b 10) bs → i ≡ length bs → lines_of bs ≡ take i bs ∷ lines_of (drop i bs)
line-to-end bs i some is all =
    let front : take i bs ≡ bs = ap (λ k. take k bs) all ∙ take-length bs in
    let rest : drop i bs ≡ [] = drop_all i bs (omega (arith, all)) in
    lines-alone bs some (others-all 10 bs (sym all ∙ is)) ∙ ap (λ l. l ∷ []) (sym front) ∙ ap (λ r. take i bs ∷ lines_of r) (sym rest)
