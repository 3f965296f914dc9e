-- What is written of a number is read as that number.
use Rattle.std.proofs.Common.{◌≡◌, ℕ, ◌^◌, ◌<◌, ◌++◌, Ok, Bool, true, false, not, ◌&&◌, List, [], ◌∷◌, length, map, codes, bytes_eq, eqb, get_or, decimal, Some, None, Option, All, refl, ap, ◌∙◌, arith, inl, inr, ne_eqb, if◌then◌else◌}
use Rattle.std.proofs.lemmas.Bool.{cases_lt, le-leb}
use Rattle.std.proofs.lemmas.Str.Parse.{IsNumeralModel, numerals_by_value, tells_all_ascii_digits, digit_at}
use Rattle.std.proofs.lemmas.Fmt.{digits_decimal, digits_value-decimal, first_decimal, decimal_digit, decimal_nonempty}
use Rattle.std.proofs.lemmas.List.Elements.{All-from_get_or, All-head, All-tail, All-nil, All-cons, All-weaker}
use Rattle.std.specs.Int.{IsInRange}
use Rattle.std.specs.Str.{all_ascii_digits}
use Rattle.std.specs.Str.Parse.{digits_value, AllDigits}
use Rattle.std.specs.List.{join_with_byte}
use Rattle.formula_tree.specs.Answers.{Answers}
use Rattle.proof_text.specs.LineForms.{all_given, answer_said, answers_of, is_plain_front, lists_of_places, number_said, numbers_of, places_in, signed_answer}
use Rattle.proof_text.specs.Lines.{answer_part, places_part}
use Rattle.proof_text.specs.Steps.{IsListPut, is_small}
use Rattle.proof_text.specs.declared.limits.TheConstants.{MOST_NUMBER}
use Rattle.proof_text.proofs.Cutting.{IsFree, joined-free, split-join}

own : IsNumeralModel (λ ds. all_ascii_digits ds ≡ true) (digits_value 10)
own = numerals_by_value _ tells_all_ascii_digits

-- ---- digits

pub decimal-digits : (n : ℕ) → n < 2 ^ 64 → All (IsInRange 48 57) (decimal n)
decimal-digits n small =
    let digits : AllDigits 10 (decimal n) = own.to (decimal n) (digits_decimal own n small) in
    All-from_get_or (IsInRange 48 57) (decimal n) 0 (λ i. digit_at (decimal n) i digits)

-- ---- a number again

plain-long : (c d : ℕ) (cs : List ℕ) → 48 < c → is_plain_front (c ∷ d ∷ cs) ≡ true
plain-long c d cs above = rw (ne_eqb c 48 (omega arith))

plain-first : (cs : List ℕ) → 0 < length cs → (1 < length cs → 48 < get_or cs 0 0) → is_plain_front cs ≡ true
plain-first [] some first = absurd (omega arith)
plain-first (c ∷ []) some first = refl
plain-first (c ∷ d ∷ cs) some first = plain-long c d cs (first (omega arith))

plain-decimal : (n : ℕ) → n < 2 ^ 64 → is_plain_front (decimal n) ≡ true
plain-decimal n small = elim (cases_lt n 1) [
  | inl none ↦ rw (decimal_digit n (omega arith)) refl
  | inr some ↦ plain-first (decimal n) (decimal_nonempty n small) (λ _. first_decimal n (omega arith) small)
]

number-by : (part : List ℕ) (n : ℕ) → is_plain_front part ≡ true → all_ascii_digits part ≡ true → digits_value 10 part ≡ n → number_said part ≡ Some n
number-by part n plain digits value = rw (plain, digits) (ap Some value)

pub number-written : (n : ℕ) → n < 2 ^ 64 → number_said (decimal n) ≡ Some n
number-written n small = number-by (decimal n) n (plain-decimal n small) (digits_decimal own n small) (digits_value-decimal own n small)

-- ---- lists of them

given-cons : {X : Type 0} (o : Option X) (x : X) (os : List (Option X)) (xs : List X) → o ≡ Some x → all_given os ≡ Some xs → all_given (o ∷ os) ≡ Some (x ∷ xs)
given-cons None x os xs e later = absurd (cc)
given-cons (Some y) x os xs e later = rw later (let same : y ≡ x = cc in ap (λ z. Some (z ∷ xs)) same)

pub numbers-written : (ns : List ℕ) → All (λ n. n < 2 ^ 64) ns → numbers_of (map decimal ns) ≡ Some ns
numbers-written [] small = refl
numbers-written (n ∷ ns) small =
    let first = number-written n (All-head (λ m. m < 2 ^ 64) n ns small) in
    let later = numbers-written ns (All-tail (λ m. m < 2 ^ 64) n ns small) in
    given-cons (number_said (decimal n)) n (map number_said (map decimal ns)) ns first later

-- digits are free of each byte below them
pub decimal-free : (c n : ℕ) → c < 48 → n < 2 ^ 64 → IsFree c (decimal n)
decimal-free c n below small =
    All-weaker (IsInRange 48 57) (λ b. eqb b c ≡ false) (λ b range. ne_eqb b c (omega arith)) (decimal n) (decimal-digits n small)

pub decimals-free : (c : ℕ) (ns : List ℕ) → c < 48 → All (λ n. n < 2 ^ 64) ns → All (IsFree c) (map decimal ns)
decimals-free c [] below small = All-nil (IsFree c)
decimals-free c (n ∷ ns) below small =
    All-cons (IsFree c) (decimal n) (map decimal ns) (decimal-free c n below (All-head (λ m. m < 2 ^ 64) n ns small))
    (decimals-free c ns below (All-tail (λ m. m < 2 ^ 64) n ns small))

-- ---- places

-- a text without `-` isn't `-`
no-dash : (part : List ℕ) → IsFree 45 part → bytes_eq part (codes "-") ≡ false
no-dash [] free = refl
no-dash (b ∷ bs) free = rw (All-head (λ x. eqb x 45 ≡ false) b bs free) refl

pub places-written : (ns : List ℕ) → All (λ n. n < 2 ^ 64) ns → places_in (places_part ns) ≡ Some ns
places-written [] small = refl
places-written (n ∷ ns) small =
    let dashless : IsFree 45 (join_with_byte 44 (map decimal (n ∷ ns))) = joined-free 45 44 (map decimal (n ∷ ns)) refl (decimals-free 45 (n ∷ ns) (omega arith) small) in
    rw (no-dash (join_with_byte 44 (map decimal (n ∷ ns))) dashless)
    (ap numbers_of (split-join 44 (decimal n) (map decimal ns) (decimals-free 44 (n ∷ ns) (omega arith) small)) ∙ numbers-written (n ∷ ns) small)

-- one place, put behind other lists
pub one-place : (part : List ℕ) (n : ℕ) (old new : List (List ℕ)) → part ≡ decimal n → n < 2 ^ 32 → new ≡ old ++ (n ∷ []) ∷ [] → IsListPut (places_in part) old new (Ok true)
one-place part n old new is small grows =
    let said = ap places_in is ∙ places-written (n ∷ []) (All-cons (λ m. m < 2 ^ 64) n [] (omega (arith, small)) (All-nil (λ m. m < 2 ^ 64))) in
    let holds : is_small n ≡ true = le-leb n MOST_NUMBER (omega (arith, small)) in
    (n ∷ [], said, ap (λ b. b && true) holds, grows)

pub places-free : (c : ℕ) (ns : List ℕ) → eqb 44 c ≡ false → eqb 45 c ≡ false → c < 48 → All (λ n. n < 2 ^ 64) ns → IsFree c (places_part ns)
places-free c [] comma dash below small = All-cons (λ x. eqb x c ≡ false) 45 [] dash (All-nil (λ x. eqb x c ≡ false))
places-free c (n ∷ ns) comma dash below small = joined-free c 44 (map decimal (n ∷ ns)) comma (decimals-free c (n ∷ ns) below small)

pub lists-written : (lists : List (List ℕ)) → All (All (λ n. n < 2 ^ 64)) lists → lists_of_places (map places_part lists) ≡ Some lists
lists-written [] small = refl
lists-written (ns ∷ lists) small =
    let first = places-written ns (All-head (All (λ m. m < 2 ^ 64)) ns lists small) in
    let later = lists-written lists (All-tail (All (λ m. m < 2 ^ 64)) ns lists small) in
    given-cons (places_in (places_part ns)) ns (map places_in (map places_part lists)) lists first later

pub lists-free : (c : ℕ) (lists : List (List ℕ)) → eqb 44 c ≡ false → eqb 45 c ≡ false → c < 48 → All (All (λ n. n < 2 ^ 64)) lists → All (IsFree c) (map places_part lists)
lists-free c [] comma dash below small = All-nil (IsFree c)
lists-free c (ns ∷ lists) comma dash below small =
    All-cons (IsFree c) (places_part ns) (map places_part lists) (places-free c ns comma dash below (All-head (All (λ m. m < 2 ^ 64)) ns lists small))
    (lists-free c lists comma dash below (All-tail (All (λ m. m < 2 ^ 64)) ns lists small))

-- ---- answers

sign-free : (c n : ℕ) (said : Bool) → eqb 43 c ≡ false → eqb 45 c ≡ false → c < 48 → n < 2 ^ 64 → IsFree c ((if said then 43 else 45) ∷ decimal n)
sign-free c n true plus dash below small = All-cons (λ x. eqb x c ≡ false) 43 (decimal n) plus (decimal-free c n below small)
sign-free c n false plus dash below small = All-cons (λ x. eqb x c ≡ false) 45 (decimal n) dash (decimal-free c n below small)

pub answers-free : (c : ℕ) (given : Answers) → eqb 43 c ≡ false → eqb 45 c ≡ false → c < 48 → All (λ a. a.0 < 2 ^ 64) given → All (IsFree c) (map answer_part given)
answers-free c [] plus dash below small = All-nil (IsFree c)
answers-free c (a ∷ given) plus dash below small =
    All-cons (IsFree c) (answer_part a) (map answer_part given) (sign-free c a.0 a.1 plus dash below (All-head (λ (b : ℕ × Bool). b.0 < 2 ^ 64) a given small))
    (answers-free c given plus dash below (All-tail (λ (b : ℕ × Bool). b.0 < 2 ^ 64) a given small))

sign-said : (said : Bool) (digits : List ℕ) (n : ℕ) → number_said digits ≡ Some n → answer_said ((if said then 43 else 45) ∷ digits) ≡ Some (n, said)
sign-said true digits n e = ap (signed_answer true) e
sign-said false digits n e = ap (signed_answer false) e

pub answers-written : (given : Answers) → All (λ a. a.0 < 2 ^ 64) given → answers_of (map answer_part given) ≡ Some given
answers-written [] small = refl
answers-written (a ∷ given) small =
    let first = sign-said a.1 (decimal a.0) a.0 (number-written a.0 (All-head (λ (b : ℕ × Bool). b.0 < 2 ^ 64) a given small)) in
    let later = answers-written given (All-tail (λ (b : ℕ × Bool). b.0 < 2 ^ 64) a given small) in
    given-cons (answer_said (answer_part a)) a (map answer_said (map answer_part given)) given first later

-- ---- words

abbrev pub is_free : ℕ → List ℕ → Bool
is_free c [] = true
is_free c (b ∷ bs) = not (eqb b c) && is_free c bs

not-and : (p q : Bool) → (not p && q) ≡ true → (p ≡ false) × (q ≡ true)
not-and true q e = absurd (cc)
not-and false q e = (refl, e)

-- a text that is written out is looked through
pub word-free : (c : ℕ) (bs : List ℕ) → is_free c bs ≡ true → IsFree c bs
word-free c [] e = All-nil (λ x. eqb x c ≡ false)
word-free c (b ∷ bs) e =
    let parts = not-and (eqb b c) (is_free c bs) e in
    All-cons (λ x. eqb x c ≡ false) b bs parts.0 (word-free c bs parts.1)
