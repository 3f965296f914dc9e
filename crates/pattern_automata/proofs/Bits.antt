-- The bits of a word, as tests.
use Rattle.std.proofs.Common.{◌≡◌, ℕ, zero, suc, ◌+◌, ◌*◌, ◌/◌, ◌%◌, ◌^◌, ◌-◌, ◌<◌, ◌≤◌, Bool, true, false, cond, ◌||◌, ◌&&◌, eqb, refl, sym, ap, ◌∙◌, arith, pow-suc, min, max, bit_and, bit_or, bit_xor, List, [], ◌∷◌, length, ◌++◌, drop, take}
use Rattle.std.specs.Int.{bit_at}
use Rattle.std.proofs.lemmas.Nat.{or_shifted}
use Rattle.std.proofs.lemmas.Nat.Bits.{bit_at_and, bit_at_or, bit_at_xor, bit_at-lt, bit_at_cat_low, bit_at_cat_high, same_from_bits_below}
use mir.Val.{bool_byte}
use Rattle.std.proofs.Math.Pow.{pow_mono}
use Rattle.std.proofs.lemmas.List.{length-drop, drop-drop, take_all}
use Rattle.pattern_automata.specs.Packed.{is_bit_on, mark_before, filled_marks, moved_marks, word_with, words_of_marks}

both-set : (x y : ℕ) → x < 2 → y < 2 → eqb (min x y) 1 ≡ (eqb x 1 && eqb y 1)
both-set zero zero h k = refl
both-set zero (suc zero) h k = refl
both-set (suc zero) zero h k = refl
both-set (suc zero) (suc zero) h k = refl
both-set (suc (suc x)) y h k = absurd (omega arith)
both-set x (suc (suc y)) h k = absurd (omega arith)

one-set : (x y : ℕ) → x < 2 → y < 2 → eqb (max x y) 1 ≡ (eqb x 1 || eqb y 1)
one-set zero zero h k = refl
one-set zero (suc zero) h k = refl
one-set (suc zero) zero h k = refl
one-set (suc zero) (suc zero) h k = refl
one-set (suc (suc x)) y h k = absurd (omega arith)
one-set x (suc (suc y)) h k = absurd (omega arith)

pub on-and : (a b i : ℕ) → is_bit_on (bit_and a b) i ≡ (is_bit_on a i && is_bit_on b i)
on-and a b i = ap (λ x. eqb x 1) (bit_at_and a b i) ∙ both-set (bit_at a i) (bit_at b i) (bit_at-lt a i) (bit_at-lt b i)

pub on-or : (a b i : ℕ) → is_bit_on (bit_or a b) i ≡ (is_bit_on a i || is_bit_on b i)
on-or a b i = ap (λ x. eqb x 1) (bit_at_or a b i) ∙ one-set (bit_at a i) (bit_at b i) (bit_at-lt a i) (bit_at-lt b i)

xor-clear : (x y : ℕ) → x < 2 → y < 2 → eqb ((x + y) % 2) 1 ≡ false → eqb x 1 ≡ eqb y 1
xor-clear zero zero h k e = refl
xor-clear zero (suc zero) h k e = absurd (cc)
xor-clear (suc zero) zero h k e = absurd (cc)
xor-clear (suc zero) (suc zero) h k e = refl
xor-clear (suc (suc x)) y h k e = absurd (omega arith)
xor-clear x (suc (suc y)) h k e = absurd (omega arith)

-- where no bit differs
pub on-xor : (a b i : ℕ) → is_bit_on (bit_xor a b) i ≡ false → is_bit_on a i ≡ is_bit_on b i
on-xor a b i off = xor-clear (bit_at a i) (bit_at b i) (bit_at-lt a i) (bit_at-lt b i) (ap (λ x. eqb x 1) (sym (bit_at_xor a b i)) ∙ off)

same-bit : (x y : ℕ) → x < 2 → y < 2 → eqb x 1 ≡ eqb y 1 → x ≡ y
same-bit zero zero h k e = refl
same-bit zero (suc zero) h k e = absurd (cc)
same-bit (suc zero) zero h k e = absurd (cc)
same-bit (suc zero) (suc zero) h k e = refl
same-bit (suc (suc x)) y h k e = absurd (omega arith)
same-bit x (suc (suc y)) h k e = absurd (omega arith)

-- words with the same bits are equal
pub same-word : (a b : ℕ) → a < 2 ^ 64 → b < 2 ^ 64 → ((i : ℕ) → i < 64 → is_bit_on a i ≡ is_bit_on b i) → a ≡ b
same-word a b h k same = same_from_bits_below 64 a b h k (λ i l. same-bit (bit_at a i) (bit_at b i) (bit_at-lt a i) (bit_at-lt b i) (same i l))

low-bit : (w i : ℕ) → i < 63 → bit_at (w % 9223372036854775808) i ≡ bit_at w i
low-bit w i h =
    let whole : w / 9223372036854775808 * 2 ^ 63 + w % 9223372036854775808 ≡ w = omega arith in
    sym (bit_at_cat_low (w / 9223372036854775808) 63 (w % 9223372036854775808) i h) ∙ ap (λ x. bit_at x i) whole

pub first-bit : (f : Bool) → is_bit_on (cond f 1 0) 0 ≡ f
first-bit true = refl
first-bit false = refl

pub first-small : (f : Bool) → cond f 1 0 < 2
first-small true = omega arith
first-small false = omega arith

less-one : (i : ℕ) → suc i - 1 ≡ i
less-one i = omega arith

shifted-bit : (w : ℕ) (f : Bool) (i : ℕ) → i < 64 → is_bit_on ((w % 9223372036854775808) * 2 ^ 1 + cond f 1 0) i ≡ mark_before f (is_bit_on w) i
shifted-bit w f zero h = ap (λ x. eqb x 1) (bit_at_cat_low (w % 9223372036854775808) 1 (cond f 1 0) 0 (omega arith)) ∙ first-bit f
shifted-bit w f (suc i) h = ap (λ x. eqb x 1) (bit_at_cat_high (w % 9223372036854775808) 1 (cond f 1 0) (suc i) (first-small f) (omega arith) ∙ (ap (λ k. bit_at (w % 9223372036854775808) k) (less-one i) ∙ low-bit w i (omega arith)))

pub on-shifted : (w : ℕ) (f : Bool) (i : ℕ) → i < 64 → is_bit_on (bit_or (w * 2 % 18446744073709551616) (cond f 1 0)) i ≡ mark_before f (is_bit_on w) i
on-shifted w f i h =
    let cut : w * 2 % 18446744073709551616 ≡ (w % 9223372036854775808) * 2 ^ 1 = omega arith in
    let sum : bit_or (w * 2 % 18446744073709551616) (cond f 1 0) ≡ (w % 9223372036854775808) * 2 ^ 1 + cond f 1 0 =
    ap (λ x. bit_or x (cond f 1 0)) cut ∙ or_shifted (w % 9223372036854775808) 1 (cond f 1 0) (first-small f) in
    ap (λ x. is_bit_on x i) sum ∙ shifted-bit w f i h

swap : (a b c : Bool) → (a || (b && c)) ≡ (a || (c && b))
swap true b c = refl
swap false true true = refl
swap false true false = refl
swap false false true = refl
swap false false false = refl

module _ (set leads word : ℕ) (first : Bool) where
  -- one round more is right one bit further
  pub fill-more : (next shifted round : ℕ) → ((i : ℕ) → i < 64 → is_bit_on shifted i ≡ mark_before first (is_bit_on word) i) → next ≡ bit_or set (bit_and shifted leads) →
      ((i : ℕ) → i < round → i < 64 → is_bit_on word i ≡ filled_marks (is_bit_on set) (is_bit_on leads) first i) →
      (i : ℕ) → i < round + 1 → i < 64 → is_bit_on next i ≡ filled_marks (is_bit_on set) (is_bit_on leads) first i
  fill-more next shifted round moves is right zero h l =
      ap (λ x. is_bit_on x 0) is ∙ (on-or set (bit_and shifted leads) 0 ∙ rw (on-and shifted leads 0, moves 0 l) (swap (is_bit_on set 0) first (is_bit_on leads 0)))
  fill-more next shifted round moves is right (suc i) h l =
      ap (λ x. is_bit_on x (suc i)) is ∙ (on-or set (bit_and shifted leads) (suc i) ∙ rw (on-and shifted leads (suc i), moves (suc i) l, right i (omega arith) (omega arith)) (swap (is_bit_on set (suc i)) (filled_marks (is_bit_on set) (is_bit_on leads) first i) (is_bit_on leads (suc i))))

  -- where a round changes nothing, all is right
  pub fill-fixed : (next shifted : ℕ) → ((i : ℕ) → i < 64 → is_bit_on shifted i ≡ mark_before first (is_bit_on word) i) → next ≡ bit_or set (bit_and shifted leads) → next ≡ word →
      (i : ℕ) → i < 64 → is_bit_on word i ≡ filled_marks (is_bit_on set) (is_bit_on leads) first i
  fill-fixed next shifted moves is same zero l =
      ap (λ x. is_bit_on x 0) (sym same ∙ is)
      ∙ (on-or set (bit_and shifted leads) 0 ∙ rw (on-and shifted leads 0, moves 0 l) (swap (is_bit_on set 0) first (is_bit_on leads 0)))
  fill-fixed next shifted moves is same (suc i) l =
      ap (λ x. is_bit_on x (suc i)) (sym same ∙ is)
      ∙ (on-or set (bit_and shifted leads) (suc i) ∙ rw (on-and shifted leads (suc i), moves (suc i) l, fill-fixed next shifted moves is same i (omega arith)) (swap (is_bit_on set (suc i)) (filled_marks (is_bit_on set) (is_bit_on leads) first i) (is_bit_on leads (suc i))))

pub byte-is : (f : Bool) → bool_byte f ≡ cond f 1 0
byte-is true = refl
byte-is false = refl

pub on-moved : (shifted one old stay : ℕ) (first : Bool) → ((i : ℕ) → i < 64 → is_bit_on shifted i ≡ mark_before first (is_bit_on old) i) →
    (i : ℕ) → i < 64 → is_bit_on (bit_or (bit_and shifted one) (bit_and old stay)) i ≡ moved_marks (is_bit_on one) (is_bit_on stay) (is_bit_on old) first i
on-moved shifted one old stay first moves i h =
    on-or (bit_and shifted one) (bit_and old stay) i ∙ rw (on-and shifted one i, on-and old stay i, moves i h) refl

-- a word_with of so many bits
small : (xs : List Bool) → word_with xs < 2 ^ length xs
small [] = omega arith
small (b ∷ bs) =
    let h = small bs in
    let p : 2 ^ suc (length bs) ≡ 2 ^ length bs * 2 = pow-suc 2 (length bs) in
    omega (arith, h, p, first-small b)

pub half-small : (xs : List Bool) → length xs ≤ 63 → word_with xs < 9223372036854775808
half-small xs h = let a = small xs in let b = pow_mono {i = length xs} {j = 63} h in omega (arith, a, b)

pub word-small : (xs : List Bool) → length xs ≤ 64 → word_with xs < 18446744073709551616
word-small xs h = let a = small xs in let b = pow_mono {i = length xs} {j = 64} h in omega (arith, a, b)

pub rest-small : (xs : List Bool) (i : ℕ) → 0 < i → length xs ≤ 64 → word_with (drop i xs) < 9223372036854775808
rest-small xs i h l = half-small (drop i xs) (omega (arith, length-drop i xs))

packed-next : (n : ℕ) (marks : List Bool) → words_of_marks (suc n) marks ≡ words_of_marks n marks ++ word_with (take 64 (drop (64 * n) marks)) ∷ []
packed-next zero marks = refl
packed-next (suc n) marks =
    let e : 64 + 64 * n ≡ 64 * suc n = omega arith in
    let d : drop (64 * n) (drop 64 marks) ≡ drop (64 * suc n) marks = drop-drop (64 * n) 64 marks ∙ ap (λ k. drop k marks) e in
    ap (λ x. word_with (take 64 marks) ∷ x) (packed-next n (drop 64 marks) ∙ ap (λ x. words_of_marks n (drop 64 marks) ++ word_with (take 64 x) ∷ []) d)

-- one more word of marks
pub packed-more : (n : ℕ) (marks rest first : List Bool) (word : ℕ) (words new : List ℕ) → words ≡ words_of_marks n marks → rest ≡ drop (64 * n) marks → first ≡ take 64 rest → word ≡ word_with first →
    new ≡ words ++ word ∷ [] → new ≡ words_of_marks (n + 1) marks
packed-more n marks rest first word words new are is cut made pushed =
    let one : n + 1 ≡ suc n = omega arith in
    pushed ∙ rw (are, made, cut, is, one) (sym (packed-next n marks))

pub rest-more : (n : ℕ) (marks rest back : List Bool) → rest ≡ drop (64 * n) marks → back ≡ drop 64 rest → back ≡ drop (64 * (n + 1)) marks
rest-more n marks rest back is cut =
    let e : 64 * n + 64 ≡ 64 * (n + 1) = omega arith in
    cut ∙ (ap (drop 64) is ∙ (drop-drop 64 (64 * n) marks ∙ ap (λ k. drop k marks) e))

-- the last word
pub packed-last : (n : ℕ) (marks rest : List Bool) (word : ℕ) (words new : List ℕ) → words ≡ words_of_marks n marks → rest ≡ drop (64 * n) marks → length marks / 64 ≤ n → n ≤ length marks / 64 → word ≡ word_with rest →
    new ≡ words ++ word ∷ [] → new ≡ words_of_marks (length marks / 64 + 1) marks
packed-last n marks rest word words new are is low high made pushed =
    let all : take 64 rest ≡ rest = take_all 64 rest (omega (arith, ap length is, length-drop (64 * n) marks)) in
    let e : n + 1 ≡ length marks / 64 + 1 = omega arith in
    packed-more n marks rest (take 64 rest) word words new are is refl (made ∙ ap word_with (sym all)) pushed ∙ ap (λ k. words_of_marks k marks) e

pub bit-small : (f : Bool) (b : ℕ) → b ≡ bool_byte f → b < 2
bit-small true b e = omega (arith, e)
bit-small false b e = omega (arith, e)
