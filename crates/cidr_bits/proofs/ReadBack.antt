-- What is written is read as what it was.
use Rattle.std.proofs.Common.{◌≡◌, ◌≢◌, ◌⊎◌, ℕ, zero, suc, ◌+◌, ◌-◌, ◌*◌, ◌/◌, ◌%◌, ◌^◌, ◌<◌, ◌≤◌, List, [], ◌∷◌, ◌++◌, get_or, drop, All, decimal, Ok, Err, refl, sym, ap, ◌∙◌, subst, arith, inl, inr, append_assoc}
use Rattle.std.specs.Int.Digits.{number_from_digits}
use Rattle.std.proofs.lemmas.Int.Digits.{number_push}
use Rattle.std.proofs.lemmas.Nat.{shr_split, div_below, div-add-mod'}
use Rattle.std.proofs.NetLemmas.Texts.{IsDotted-ipv4_text}
use Rattle.cidr_bits.specs.declared.address.Address.{Address}
use Rattle.cidr_bits.specs.declared.address.Address.TheVariants.{V4, V6}
use Rattle.cidr_bits.specs.Numbers.{number, width, network_address, IsAddress}
use Rattle.cidr_bits.specs.Forms.{IsAddressText, IsLengthText, IsBlockText}
use Rattle.cidr_bits.specs.Texts.{last_digits, address_text, block_text}
use Rattle.cidr_bits.specs.Laws.{OneBlock, AddressReadBack, BlockReadBack}
use Rattle.cidr_bits.proofs.Reading.{one_address, NotSlash, address_not_slash}
use Rattle.cidr_bits.proofs.Hex.{IsGroups-groups_text}
use Rattle.std.proofs.lemmas.List.Elements.{All-head, All-tail}
use Rattle.std.proofs.lemmas.Fmt.{decimal_injective}
use Rattle.std.proofs.Math.Nat.{pow-suc, pow-zero}

-- the digits of a number stand for it
number-last_digits : (base k n : ℕ) → 0 < base → n < base ^ k → number_from_digits base (last_digits base k n) ≡ n
number-last_digits base zero n positive fits = omega (arith, pow-zero base)
number-last_digits base (suc k) n positive fits =
    let below : n < base ^ k * base = omega (arith, pow-suc base k) in
    let front = number-last_digits base k (n / base) positive (div_below n base (base ^ k) positive below) in
    number_push base (last_digits base k (n / base)) (n % base) ∙ ap (λ q. q * base + n % base) front ∙ div-add-mod' n base

octets_fit : (n k : ℕ) → get_or (last_digits 256 4 n) k 0 < 2 ^ 8
octets_fit n zero = omega arith
octets_fit n (suc zero) = omega arith
octets_fit n (suc (suc zero)) = omega arith
octets_fit n (suc (suc (suc zero))) = omega arith
octets_fit n (suc (suc (suc (suc k)))) = omega arith

groups_fit : (n k : ℕ) → get_or (last_digits 65536 8 n) k 0 < 2 ^ 16
groups_fit n zero = omega arith
groups_fit n (suc zero) = omega arith
groups_fit n (suc (suc zero)) = omega arith
groups_fit n (suc (suc (suc zero))) = omega arith
groups_fit n (suc (suc (suc (suc zero)))) = omega arith
groups_fit n (suc (suc (suc (suc (suc zero))))) = omega arith
groups_fit n (suc (suc (suc (suc (suc (suc zero)))))) = omega arith
groups_fit n (suc (suc (suc (suc (suc (suc (suc zero))))))) = omega arith
groups_fit n (suc (suc (suc (suc (suc (suc (suc (suc k)))))))) = omega arith

pub spells : (a : Address) → IsAddress a → IsAddressText (address_text a) a
spells (V4 n) fits = (
  last_digits 256 4 n,
  IsDotted-ipv4_text (last_digits 256 4 n) refl (octets_fit n),
  sym (number-last_digits 256 4 n (omega arith) fits),
)
spells (V6 n) fits = (
  last_digits 65536 8 n,
  inl (IsGroups-groups_text (last_digits 65536 8 n) (groups_fit n), refl),
  sym (number-last_digits 65536 8 n (omega arith) fits),
)

pub address_read_back : AddressReadBack
address_read_back a (Ok b) fits read = ap Ok (one_address (address_text a) b a read (spells a fits))
address_read_back a (Err e) fits read = absurd (read a (spells a fits))

pub uncleared : (a : Address) (prefix : ℕ) → number a % 2 ^ (width a - prefix) ≡ 0 → a ≡ network_address a prefix
uncleared (V4 n) prefix clear = let whole = shr_split n (32 - prefix) in ap V4 (omega (arith, whole))
uncleared (V6 n) prefix clear = let whole = shr_split n (128 - prefix) in ap V6 (omega (arith, whole))

pub block_spells : (first : Address) (prefix : ℕ) → IsAddress first → prefix ≤ width first → number first % 2 ^ (width first - prefix) ≡ 0 → IsBlockText (block_text first prefix) first prefix
block_spells first prefix fits within clear = record {
  address_text = address_text first;
  length_text = 47 ∷ decimal prefix;
  address = first;
  spelled = append_assoc (address_text first) (47 ∷ []) (decimal prefix);
  is_address = spells first fits;
  is_length = inr (refl, within);
  first_is = uncleared first prefix clear;
}

-- nothing, or a text that begins with `/`
abbrev pub IsRest : List ℕ → Type 0
IsRest t = (t ≡ []) ⊎ ((u : List ℕ) × (t ≡ 47 ∷ u))

no_rest : (t : List ℕ) (y : ℕ) (ys : List ℕ) → y ≢ 47 → IsRest t → t ≡ y ∷ ys → ⊥
no_rest t y ys other (inl e) h = cc
no_rest t y ys other (inr (u, e)) h = let same : y ≡ 47 = cc in other same

-- the text up to the first `/` and what follows are determined
same_parts : (xs ys us vs : List ℕ) → All NotSlash xs → All NotSlash ys → IsRest us → IsRest vs → xs ++ us ≡ ys ++ vs → (xs ≡ ys) × (us ≡ vs)
same_parts [] [] us vs x y u v e = (refl, e)
same_parts [] (b ∷ ys) us vs x y u v e = absurd (no_rest us b (ys ++ vs) (All-head NotSlash b ys y) u e)
same_parts (a ∷ xs) [] us vs x y u v e = absurd (no_rest vs a (xs ++ us) (All-head NotSlash a xs x) v (sym e))
same_parts (a ∷ xs) (b ∷ ys) us vs x y u v e =
    let rest : xs ++ us ≡ ys ++ vs = cc in
    let first : a ≡ b = cc in
    let later = same_parts xs ys us vs (All-tail NotSlash a xs x) (All-tail NotSlash b ys y) u v rest in
    (cc, later.1)

pub width_small : (a : Address) → width a ≤ 128
width_small (V4 n) = omega arith
width_small (V6 n) = omega arith

pub is_rest : (bits prefix : ℕ) (t : List ℕ) → IsLengthText bits t prefix → IsRest t
is_rest bits prefix t (inl h) = inl h.0
is_rest bits prefix t (inr h) = inr (decimal prefix, h.0)

same_length : (bits p q : ℕ) (t : List ℕ) → bits ≤ 128 → IsLengthText bits t p → IsLengthText bits t q → p ≡ q
same_length bits p q t small (inl h) (inl k) = h.1 ∙ sym k.1
same_length bits p q t small (inl h) (inr k) = absurd (let no : [] ≡ 47 ∷ decimal q = sym h.0 ∙ k.0 in cc)
same_length bits p q t small (inr h) (inl k) = absurd (let no : [] ≡ 47 ∷ decimal p = sym k.0 ∙ h.0 in cc)
same_length bits p q t small (inr h) (inr k) =
    decimal_injective p q (omega arith) (omega arith) (ap (drop 1) (sym h.0 ∙ k.0))

pub one_block : OneBlock
one_block text a b p q h k =
    let parts = same_parts h.address_text k.address_text h.length_text k.length_text
    (address_not_slash _ h.address h.is_address) (address_not_slash _ k.address k.is_address)
    (is_rest _ p _ h.is_length) (is_rest _ q _ k.is_length) (sym h.spelled ∙ k.spelled) in
    let address : h.address ≡ k.address = one_address h.address_text h.address k.address h.is_address (subst (λ t. IsAddressText t k.address) (sym parts.0) k.is_address) in
    let other : IsLengthText (width h.address) h.length_text q = subst (λ t. IsLengthText (width h.address) t q) (sym parts.1) (subst (λ w. IsLengthText w k.length_text q) (sym (ap width address)) k.is_length) in
    let prefix = same_length _ p q h.length_text (width_small h.address) h.is_length other in
    (h.first_is ∙ ap (λ c. network_address c p) address ∙ ap (network_address k.address) prefix ∙ sym k.first_is, prefix)

pub block_read_back : BlockReadBack
block_read_back block (Ok b) fits read =
    let spelled = block_spells block.first block.prefix fits block.fits block.clear in
    one_block (block_text block.first block.prefix) b.first block.first b.prefix block.prefix read spelled
block_read_back block (Err e) fits read = absurd (read block.first block.prefix (block_spells block.first block.prefix fits block.fits block.clear))
