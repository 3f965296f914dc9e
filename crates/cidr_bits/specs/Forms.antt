-- Which texts stand for an address or a block. Texts are lists of bytes.
use Rattle.std.specs.Prelude.{◌≡◌, ◌≢◌, ℕ, ◌≤◌, ◌⊎◌, List, [], ◌++◌, length, get_or, codes, decimal, Result, MatchResult}
use Rattle.std.specs.Int.Digits.{number_from_digits}
use Rattle.std.specs.Net.Grammar.{IsDotted, IsColonHex}
use Rattle.cidr_bits.specs.declared.address.Address.{Address}
use Rattle.cidr_bits.specs.declared.address.Address.TheVariants.{V4, V6}
use Rattle.cidr_bits.specs.declared.address.BadAddress.{BadAddress}
use Rattle.cidr_bits.specs.declared.block.Block.{Block}
use Rattle.cidr_bits.specs.Numbers.{width, network_address}

-- The text spells the address. An IPv4 address is four decimal numbers below 256 without leading zeros, joined by points: its
-- four octets. An IPv6 address is eight groups of one to four hex digits, joined by colons: its eight numbers of 16 bits; one
-- `::` may stand for one or more groups that are zero, and an IPv4 address may stand for the last two groups (RFC 4291,
-- section 2.2).
abbrev pub IsAddressText : List ℕ → Address → Type 0
IsAddressText text (V4 n) = (octets : List ℕ) × IsDotted text octets × (n ≡ number_from_digits 256 octets)
IsAddressText text (V6 n) = (groups : List ℕ) × IsColonHex text groups × (n ≡ number_from_digits 65536 groups)

-- what follows the address of a block gives the prefix length: nothing, for all of the address's bits, or `/` and a decimal
-- number without leading zeros, of at most that many
abbrev pub IsLengthText : ℕ → List ℕ → ℕ → Type 0
IsLengthText bits text prefix =
    ((text ≡ []) × (prefix ≡ bits)) ⊎ ((text ≡ codes "/" ++ decimal prefix) × (prefix ≤ bits))

-- the text spells the block with this first address and prefix length. The bits of the address that is written after the
-- prefix are ignored (RFC 4632, section 3.1; RFC 4291, section 2.3)
pub record IsBlockText (text : List ℕ) (first : Address) (prefix : ℕ) : Type 0 where
  pub address_text : List ℕ
  pub length_text : List ℕ
  pub address : Address
  pub spelled : text ≡ address_text ++ length_text
  pub is_address : IsAddressText address_text address
  pub is_length : IsLengthText (width address) length_text prefix
  pub first_is : first ≡ network_address address prefix

-- the answer is the address that the text spells, and the error exactly where it spells none
abbrev pub ReadsAddress : List ℕ → Result Address BadAddress → Type 0
ReadsAddress text r = MatchResult r (IsAddressText text) (λ _. (a : Address) → ¬ (IsAddressText text a))

-- the answer is the block that the text spells, and the error exactly where it spells none
abbrev pub ReadsBlock : List ℕ → Result Block BadAddress → Type 0
ReadsBlock text r = MatchResult r (λ block. IsBlockText text block.first block.prefix)
    (λ _. (first : Address) (prefix : ℕ) → ¬ (IsBlockText text first prefix))

-- the same of a text without `/`
abbrev pub ReadsWhole : List ℕ → Result Block BadAddress → Type 0
ReadsWhole text r = MatchResult r (λ block. IsBlockText text block.first block.prefix)
    (λ _. (a : Address) → ¬ IsAddressText text a)

-- the answer is the prefix length of at most so many bits that digits write, and the error exactly where they write none
abbrev pub ReadsLength : ℕ → List ℕ → Result ℕ BadAddress → Type 0
ReadsLength most digits r = MatchResult r (λ p. (digits ≡ decimal p) × (p ≤ most)) (λ _. (p : ℕ) → p ≤ most → digits ≢ decimal p)

-- no sign, and no zero before other digits
abbrev pub IsPlain : List ℕ → Type 0
IsPlain digits = (get_or digits 0 0 ≢ 43) × (get_or digits 0 0 ≡ 48 → length digits ≡ 1)
