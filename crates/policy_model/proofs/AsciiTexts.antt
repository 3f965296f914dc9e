-- The texts of numbers, addresses and blocks are ASCII.
use Rattle.std.proofs.Common.{◌<◌, ◌≤◌, ◌+◌, ◌*◌, ◌/◌, ◌%◌, ◌^◌, ◌⊎◌, ◌==◌, ℕ, zero, suc, ℤ, pos, negsuc, List, [], ◌∷◌, ◌++◌, Bool, true, false, All, get_or, length, sym, subst, inl, inr, arith}
use Rattle.std.specs.Prelude.{if◌then◌else◌, codes, decimal, unsigned_abs}
use Rattle.std.specs.Char.{digit_char}
use Rattle.std.specs.List.{flat_map}
use Rattle.std.specs.Net.Text.{groups_text, hex, ipv4_text, leading_zero_digits}
use Rattle.std.specs.Str.{IsUtf8}
use Rattle.std.proofs.Math.ListN.{get_or-eq_default}
use Rattle.std.proofs.Math.Nat.{pow-suc, mod-lt, div-lt_iff_lt-mul, one-le-pow}
use Rattle.std.proofs.NetLemmas.Alphabet.{All-ipv4_text, IsDigitOrDot}
use Rattle.std.proofs.lemmas.Bool.{cases_lt}
use Rattle.std.proofs.lemmas.Bool.Decides.{nat_tests}
use Rattle.std.proofs.lemmas.Fmt.{IsAscii-decimal}
use Rattle.std.proofs.lemmas.List.Elements.{All-nil, All-cons, All-append, All-drop, All-head, All-tail}
use Rattle.std.proofs.lemmas.Str.{IsUtf8-from_ascii}
use Rattle.std.proofs.lemmas.Str.Ascii.{All-from_ascii, IsAscii-from_all}
use Rattle.intervals.specs.DecimalTexts.{fraction_digits, fraction_text, sign_text, written_decimal}
use Rattle.intervals.specs.Scaled.{IsScaled}
use Rattle.cidr_bits.specs.Texts.{address_text, block_text, last_digits}
use Rattle.cidr_bits.specs.Numbers.{width}
use Rattle.cidr_bits.specs.declared.address.Address as address
use Rattle.cidr_bits.specs.declared.address.Address.TheVariants.{V4, V6}
use Rattle.cidr_bits.specs.declared.block.Block.{Block}

-- each byte is one of ASCII
abbrev pub AreLow : List ℕ → Type 0
AreLow bs = All (λ b. b < 128) bs

pub low-utf8 : (bs : List ℕ) → AreLow bs → IsUtf8 bs
low-utf8 bs low = IsUtf8-from_ascii bs (IsAscii-from_all bs low)

-- ---- numbers

decimal-low : (n : ℕ) → n < 2 ^ 64 → AreLow (decimal n)
decimal-low n small = All-from_ascii (decimal n) (IsAscii-decimal n small)

low-if : (b : Bool) (xs ys : List ℕ) → AreLow xs → AreLow ys → AreLow (if b then xs else ys)
low-if true xs ys low other = low
low-if false xs ys low other = other

digit-below : (n p : ℕ) → n < p * 10 → 0 < p → n / p < 10
digit-below n p small positive = (div-lt_iff_lt-mul positive).1 (omega (arith, small))

fraction-low : (k n : ℕ) → n < 10 ^ k → AreLow (fraction_digits k n)
fraction-low zero n small = All-nil (λ b. b < 128)
fraction-low (suc k) n small =
    let positive : 0 < 10 ^ k = one-le-pow k 10 (omega arith) in
    let tenfold : n < 10 ^ k * 10 = rw (← pow-suc 10 k) small in
    let digit = digit-below n (10 ^ k) tenfold positive in
    low-if (n == 0) [] ((48 + n / 10 ^ k) ∷ fraction_digits k (n % 10 ^ k)) (All-nil (λ b. b < 128))
    (All-cons (λ b. b < 128) (48 + n / 10 ^ k) (fraction_digits k (n % 10 ^ k)) (omega (arith, digit)) (fraction-low k (n % 10 ^ k) (mod-lt n positive)))

behind-point : (n : ℕ) → n < 1_000_000_000 → AreLow (fraction_text n)
behind-point n small = low-if (n == 0) [] (46 ∷ fraction_digits 9 n) (All-nil (λ b. b < 128)) (All-cons (λ b. b < 128) 46 (fraction_digits 9 n) (omega arith) (fraction-low 9 n (omega (arith, small))))

sign-low : (z : ℤ) → AreLow (sign_text z)
sign-low (pos n) = All-nil (λ b. b < 128)
sign-low (negsuc n) = All-cons (λ b. b < 128) 45 [] (omega arith) (All-nil (λ b. b < 128))

size-low : (n : ℕ) → n < 1_000_000_000_000_000_000_000_000_000 → AreLow (decimal (n / 1_000_000_000) ++ fraction_text (n % 1_000_000_000))
size-low n small =
    let whole : n / 1_000_000_000 < 1_000_000_000_000_000_000 = omega arith in
    let rest : n % 1_000_000_000 < 1_000_000_000 = omega arith in
    All-append (λ b. b < 128) (decimal (n / 1_000_000_000)) (fraction_text (n % 1_000_000_000)) (decimal-low (n / 1_000_000_000) (omega (arith, whole))) (behind-point (n % 1_000_000_000) rest)

pub number-low : (z : ℤ) → IsScaled z → AreLow (written_decimal z)
number-low z small =
    let n = unsigned_abs z in
    All-append (λ b. b < 128) (sign_text z) (decimal (n / 1_000_000_000) ++ fraction_text (n % 1_000_000_000)) (sign-low z) (size-low n small)

-- ---- addresses

last-below : (base k n : ℕ) → 0 < base → All (λ d. d < base) (last_digits base k n)
last-below base zero n positive = All-nil (λ d. d < base)
last-below base (suc k) n positive =
    All-append (λ d. d < base) (last_digits base k (n / base)) ((n % base) ∷ []) (last-below base k (n / base) positive) (All-cons (λ d. d < base) (n % base) [] (mod-lt n positive) (All-nil (λ d. d < base)))

below-at : (xs : List ℕ) (base i : ℕ) → 0 < base → All (λ d. d < base) xs → (i < length xs) ⊎ (length xs ≤ i) → get_or xs i 0 < base
below-at xs base i positive all (inl within) = all i 0 within
below-at xs base i positive all (inr past) = subst (λ (d : ℕ). d < base) (sym (get_or-eq_default xs 0 past)) positive

dot-low : (c : ℕ) → IsDigitOrDot c → c < 128
dot-low c (inl h) = let most = h.1 in omega (arith, most)
dot-low c (inr e) = omega (arith, e)

octets-low : (n : ℕ) → AreLow (ipv4_text (last_digits 256 4 n))
octets-low n =
    let digits = last_digits 256 4 n in
    let below = last-below 256 4 n (omega arith) in
    let all = All-ipv4_text digits (λ i. below-at digits 256 i (omega arith) below (cases_lt i (length digits))) in
    λ i d within. dot-low _ (all i d within)

char-low : (d : ℕ) → d < 16 → digit_char d < 128
char-low d small = grind (arith, nat_tests)

four-low : (a b c d : ℕ) → a < 128 → b < 128 → c < 128 → d < 128 → AreLow (a ∷ b ∷ c ∷ d ∷ [])
four-low a b c d p q r s =
    All-cons (λ x. x < 128) a (b ∷ c ∷ d ∷ []) p (All-cons (λ x. x < 128) b (c ∷ d ∷ []) q (All-cons (λ x. x < 128) c (d ∷ []) r (All-cons (λ x. x < 128) d [] s (All-nil (λ x. x < 128)))))

hex-low : (n : ℕ) → n < 65536 → AreLow (hex n)
unfolding hex
hex-low n small =
    All-drop (λ x. x < 128) (leading_zero_digits n) (digit_char (n / 0x1000) ∷ digit_char (n / 0x100 % 16) ∷ digit_char (n / 0x10 % 16) ∷ digit_char (n % 16) ∷ [])
    (four-low (digit_char (n / 0x1000)) (digit_char (n / 0x100 % 16)) (digit_char (n / 0x10 % 16)) (digit_char (n % 16)) (char-low (n / 0x1000) (omega (arith, small))) (char-low (n / 0x100 % 16) (omega arith)) (char-low (n / 0x10 % 16) (omega arith)) (char-low (n % 16) (omega arith)))

more-low : (xs : List ℕ) → All (λ d. d < 65536) xs → AreLow (flat_map (λ t. codes ":" ++ hex t) xs)
more-low [] all = All-nil (λ b. b < 128)
more-low (x ∷ xs) all =
    All-append (λ b. b < 128) (58 ∷ hex x) (flat_map (λ t. codes ":" ++ hex t) xs) (All-cons (λ b. b < 128) 58 (hex x) (omega arith) (hex-low x (All-head (λ d. d < 65536) x xs all))) (more-low xs (All-tail (λ d. d < 65536) x xs all))

groups-low : (xs : List ℕ) → All (λ d. d < 65536) xs → AreLow (groups_text xs)
groups-low [] all = All-nil (λ b. b < 128)
groups-low (x ∷ xs) all =
    All-append (λ b. b < 128) (hex x) (flat_map (λ t. codes ":" ++ hex t) xs) (hex-low x (All-head (λ d. d < 65536) x xs all)) (more-low xs (All-tail (λ d. d < 65536) x xs all))

pub address-low : (a : address.Address) → AreLow (address_text a)
address-low (V4 n) = octets-low n
address-low (V6 n) = groups-low (last_digits 65536 8 n) (last-below 65536 8 n (omega arith))

few-bits : (a : address.Address) → width a ≤ 128
few-bits (V4 n) = omega arith
few-bits (V6 n) = omega arith

pub block-low : (block : Block) → AreLow (block_text block.first block.prefix)
block-low block =
    let bits = few-bits block.first in
    let small : block.prefix < 2 ^ 64 = omega (arith, block.fits, bits) in
    All-append (λ b. b < 128) (address_text block.first ++ codes "/") (decimal block.prefix)
    (All-append (λ b. b < 128) (address_text block.first) (codes "/") (address-low block.first) (All-cons (λ b. b < 128) 47 [] (omega arith) (All-nil (λ b. b < 128))))
    (decimal-low block.prefix small)
