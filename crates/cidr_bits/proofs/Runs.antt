-- The addresses of a block as a run of numbers.
use Rattle.std.proofs.Common.{◌≡◌, ℕ, ◌+◌, ◌-◌, ◌*◌, ◌/◌, ◌%◌, ◌^◌, ◌<◌, ◌≤◌, true, arith, ap, ◌∙◌, eq-eqb}
use Rattle.std.proofs.lemmas.Bool.{eqb-true}
use Rattle.cidr_bits.specs.declared.address.Address.{Address}
use Rattle.cidr_bits.specs.declared.address.Address.TheVariants.{V4, V6}
use Rattle.cidr_bits.specs.Numbers.{number, width, same_family, lies_in}
use Rattle.std.proofs.lemmas.Nat.{pow_pos, pow-add, shr_split, shr_high}
use Rattle.std.proofs.Math.Nat.{lt_of_mul-lt-mul_right, mul-le-mul_right}

-- a number whose last bits are zero has room for them
pub room : (first free bits : ℕ) → free ≤ bits → first < 2 ^ bits → first % 2 ^ free ≡ 0 → first + 2 ^ free ≤ 2 ^ bits
room first free bits within fits clear =
    let s = 2 ^ free in
    let t = 2 ^ (bits - free) in
    let q = first / 2 ^ free in
    let whole : q * s + first % s ≡ first = shr_split first free in
    let parts : 2 ^ bits ≡ t * s = ap (λ k. 2 ^ k) (omega arith) ∙ pow-add 2 (bits - free) free in
    let below : q * s < t * s = omega (arith, whole, parts) in
    let less : q < t = lt_of_mul-lt-mul_right s below in
    let more : (q + 1) * s ≤ t * s = mul-le-mul_right s (omega arith) in
    omega (arith, whole, parts, more)

-- the greatest number with its other bits is the one where each last bit is one
pub greatest : (first free n last : ℕ) → first % 2 ^ free ≡ 0 → last + 1 ≡ first + 2 ^ free → n / 2 ^ free ≡ first / 2 ^ free → n ≤ last
greatest first free n last clear value same =
    let whole = shr_split first free in
    let other = shr_split n free in
    let e : n / 2 ^ free * 2 ^ free ≡ first / 2 ^ free * 2 ^ free = ap (λ k. k * 2 ^ free) same in
    let p = pow_pos free in
    omega (arith, whole, other, e, p)

pub last_same : (first free last : ℕ) → first % 2 ^ free ≡ 0 → last + 1 ≡ first + 2 ^ free → last / 2 ^ free ≡ first / 2 ^ free
last_same first free last clear value =
    let s = 2 ^ free in
    let whole : first / s * s + first % s ≡ first = shr_split first free in
    let p : 0 < s = pow_pos free in
    let e : last ≡ first / s * s + (s - 1) = omega (arith, whole) in
    ap (λ k. k / s) e ∙ shr_high (first / s) free (s - 1) (omega arith)

-- the same of addresses
pub greatest_inside : (first : Address) (prefix : ℕ) (last : Address) → number first % 2 ^ (width first - prefix) ≡ 0 → same_family first last ≡ true → number last + 1 ≡ number first + 2 ^ (width first - prefix) → lies_in first prefix last ≡ true
greatest_inside (V4 f) prefix (V4 l) clear same value = eq-eqb _ _ (last_same f _ l clear value)
greatest_inside (V4 f) prefix (V6 l) clear same value = absurd (cc)
greatest_inside (V6 f) prefix (V4 l) clear same value = absurd (cc)
greatest_inside (V6 f) prefix (V6 l) clear same value = eq-eqb _ _ (last_same f _ l clear value)

pub greatest_above : (first : Address) (prefix : ℕ) (last a : Address) → number first % 2 ^ (width first - prefix) ≡ 0 → same_family first last ≡ true → number last + 1 ≡ number first + 2 ^ (width first - prefix) → lies_in first prefix a ≡ true → number a ≤ number last
greatest_above (V4 f) prefix (V4 l) (V4 a) clear same value inside = greatest f _ a l clear value (eqb-true _ _ inside)
greatest_above (V4 f) prefix (V4 l) (V6 a) clear same value inside = absurd (cc)
greatest_above (V4 f) prefix (V6 l) a clear same value inside = absurd (cc)
greatest_above (V6 f) prefix (V4 l) a clear same value inside = absurd (cc)
greatest_above (V6 f) prefix (V6 l) (V4 a) clear same value inside = absurd (cc)
greatest_above (V6 f) prefix (V6 l) (V6 a) clear same value inside = greatest f _ a l clear value (eqb-true _ _ inside)
