-- Blocks that texts spell are of addresses, and two of them are equal where their texts are.
use Rattle.std.proofs.Common.{◌≡◌, ℕ, zero, suc, ◌-◌, ◌*◌, ◌/◌, ◌^◌, ◌<◌, ◌≤◌, min, Bool, true, false, List, [], ◌∷◌, ◌++◌, length, replicate, codes, Option, Some, None, refl, ap, sym, ◌∙◌, subst, arith, inl, inr}
use Rattle.std.specs.Prelude.{option_map}
use Rattle.std.specs.Int.Digits.{AllBelowBase, number_from_digits}
use Rattle.std.specs.Net.Addr.{segments_of}
use Rattle.std.specs.Net.Grammar.{IsColonHex, IsDotted, IsElided, IsGroup, IsGroupsAfter}
use Rattle.std.specs.Str.Parse.{digits_value}
use Rattle.std.proofs.lemmas.Int.Digits.{digits_value-lt, number_lt}
use Rattle.std.proofs.lemmas.List.{length-append, length-replicate}
use Rattle.std.proofs.lemmas.Option.{same_Some}
use Rattle.std.proofs.Math.Nat.{pow-le-pow_right, div-add-mod'}
use Rattle.cidr_bits.specs.declared.address.Address.{Address}
use Rattle.cidr_bits.specs.declared.address.Address.TheVariants.{V4, V6}
use Rattle.cidr_bits.specs.declared.block.Block.{Block}
use Rattle.cidr_bits.specs.Numbers.{IsAddress, network_address, width}
use Rattle.cidr_bits.specs.Blocks.{block_around}
use Rattle.cidr_bits.specs.Forms.{IsAddressText, IsBlockText}
use Rattle.cidr_bits.specs.Readings.{block_of, block_spelled}
use Rattle.cidr_bits.specs.Laws.{BlockIsSpelled, BlockOfIsTheForm, OneBlock}
use Rattle.cidr_bits.specs.Texts.{block_text}
use Rattle.cidr_bits.proofs.Laws.{block-path}

-- ---- groups of an address

below-append : (base : ℕ) (xs ys : List ℕ) → AllBelowBase base xs → AllBelowBase base ys → AllBelowBase base (xs ++ ys)
below-append base [] ys first second = second
below-append base (x ∷ xs) ys first second = (first.0, below-append base xs ys first.1 second)

below-zeros : (base n : ℕ) → 0 < base → AllBelowBase base (replicate n 0)
below-zeros base zero positive = tt
below-zeros base (suc n) positive = (positive, below-zeros base n positive)

group-below : (text : List ℕ) (segment : ℕ) → IsGroup text segment → segment < 65536
group-below text segment is =
    let value : digits_value 16 text ≡ segment = is.0.1 in
    let below : digits_value 16 text < 16 ^ length text = digits_value-lt 16 text is.0.0.1 in
    let most : 16 ^ length text ≤ 16 ^ 4 = pow-le-pow_right (omega arith) is.1 in
    omega (arith, value, below, most)

segments-below : (text octets : List ℕ) → IsDotted text octets → AllBelowBase 65536 (segments_of octets)
segments-below text octets is =
    let fit = is.fit in
    subst (λ (o : List ℕ). AllBelowBase 65536 (segments_of o)) (sym is.value) (omega (arith, fit.0, fit.1), (omega (arith, fit.2, fit.3), tt))

groups-below : (ipv4 : Bool) (lead text segments : List ℕ) → IsGroupsAfter ipv4 lead text segments → AllBelowBase 65536 segments
groups-below ipv4 lead text [] is = tt
groups-below ipv4 lead text (s ∷ segments) (inl (group, rest, split, one, more)) = (group-below group s one, groups-below ipv4 (codes ":") rest segments more)
groups-below ipv4 lead text (s ∷ segments) (inr (last, octets, allowed, split, dotted, are)) =
    subst (AllBelowBase 65536) (sym are) (segments-below last octets dotted)

elided-below : (text segments : List ℕ) → IsElided text segments → AllBelowBase 65536 segments × (length segments ≡ 8)
elided-below text segments is =
    let zeros : List ℕ = replicate {A = ℕ} (8 - length is.head - length is.tail) 0 in
    let head = groups-below false [] is.head_text is.head is.head_groups in
    let tail = groups-below true [] is.tail_text is.tail is.tail_groups in
    let below = below-append 65536 (is.head ++ zeros) is.tail (below-append 65536 is.head zeros head (below-zeros 65536 _ (omega arith))) tail in
    let long : length ((is.head ++ zeros) ++ is.tail) ≡ 8 =
    omega (arith, length-append (is.head ++ zeros) is.tail, length-append is.head zeros, length-replicate {A = ℕ} (8 - length is.head - length is.tail) 0, is.room) in
    (subst (AllBelowBase 65536) (sym is.value) below, ap length is.value ∙ long)

hex-below : (text segments : List ℕ) → IsColonHex text segments → AllBelowBase 65536 segments × (length segments ≡ 8)
hex-below text segments (inl whole) = (groups-below true [] text segments whole.0, whole.1)
hex-below text segments (inr elided) = elided-below text segments elided

-- ---- addresses

dotted-in : (text octets : List ℕ) → IsDotted text octets → number_from_digits 256 octets < 2 ^ 32
dotted-in text octets is =
    let fit = is.fit in
    let below : AllBelowBase 256 (is.a ∷ is.b ∷ is.c ∷ is.d ∷ []) = (fit.0, (fit.1, (fit.2, (fit.3, tt)))) in
    subst (λ (o : List ℕ). number_from_digits 256 o < 2 ^ 32) (sym is.value) (number_lt 256 (is.a ∷ is.b ∷ is.c ∷ is.d ∷ []) below)

hex-in : (text segments : List ℕ) → IsColonHex text segments → number_from_digits 65536 segments < 2 ^ 128
hex-in text segments is =
    let below = hex-below text segments is in
    subst (λ (n : ℕ). number_from_digits 65536 segments < 65536 ^ n) below.1 (number_lt 65536 segments below.0)

address-in : (text : List ℕ) (a : Address) → IsAddressText text a → IsAddress a
address-in text (V4 n) (octets, dotted, is) = subst (λ (m : ℕ). m < 2 ^ 32) (sym is) (dotted-in text octets dotted)
address-in text (V6 n) (groups, spelled, is) = subst (λ (m : ℕ). m < 2 ^ 128) (sym is) (hex-in text groups spelled)

cleared-in : (a : Address) (prefix : ℕ) → IsAddress a → IsAddress (network_address a prefix)
cleared-in (V4 n) prefix fits = below-cleared n (2 ^ (32 - prefix)) (2 ^ 32) fits
  where
    below-cleared : (n p most : ℕ) → n < most → n / p * p < most
    below-cleared n p most fits = omega (arith, div-add-mod' n p)
cleared-in (V6 n) prefix fits = below-cleared n (2 ^ (128 - prefix)) (2 ^ 128) fits
  where
    below-cleared : (n p most : ℕ) → n < most → n / p * p < most
    below-cleared n p most fits = omega (arith, div-add-mod' n p)

-- ---- blocks

-- the first address of a block that a text spells
pub block-in : BlockOfIsTheForm → (text : List ℕ) (block : Block) → block_spelled text ≡ Some block → IsAddress block.first
block-in form text block e = by (block_of text) refl e
  where
    by : (o : Option (Address × ℕ)) → block_of text ≡ o → option_map (λ parts. block_around parts.0 parts.1) o ≡ Some block → IsAddress block.first
    by None is e = absurd (cc)
    by (Some parts) is e =
        let same : block_around parts.0 parts.1 ≡ block = same_Some _ _ e in
        let spelled : IsBlockText text parts.0 parts.1 = (form text parts.0 parts.1).0 is in
        let fits : IsAddress parts.0 =
        subst IsAddress (sym spelled.first_is) (cleared-in spelled.address parts.1 (address-in spelled.address_text spelled.address spelled.is_address)) in
        subst (λ (b : Block). IsAddress b.first) same (cleared-in parts.0 (min parts.1 (width parts.0)) fits)

-- two blocks are equal where their texts are
pub blocks-apart : BlockIsSpelled → OneBlock → (b c : Block) → IsAddress b.first → IsAddress c.first → block_text b.first b.prefix ≡ block_text c.first c.prefix → b ≡ c
blocks-apart spelled one b c first second same =
    let own = spelled b first in
    let other : IsBlockText (block_text b.first b.prefix) c.first c.prefix = subst (λ (t : List ℕ). IsBlockText t c.first c.prefix) (sym same) (spelled c second) in
    let parts = one (block_text b.first b.prefix) b.first c.first b.prefix c.prefix own other in
    block-path b c parts.0 parts.1
