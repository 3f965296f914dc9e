-- What is computed of a text is what the forms say.
use Rattle.std.proofs.Common.{◌≡◌, ◌⊎◌, ℕ, ◌≤◌, ◌&&◌, ◌==◌, Bool, true, false, List, [], ◌∷◌, ◌++◌, All, decimal, Option, Some, None, Result, Ok, Err, refl, sym, ap, ap₂, ◌∙◌, subst, arith, inl, inr, append-nil, lit≤}
use Rattle.std.specs.Prelude.{option_map, option_and_then, bytes_eq, nat_le}
use Rattle.std.specs.Option.{option_or}
use Rattle.std.proofs.lemmas.Option.{same_Some}
use Rattle.std.proofs.lemmas.Bool.{eqb-true, ne_eqb, le-leb, leb-true}
use Rattle.std.proofs.lemmas.Slice.Eq.{bytes_eq-Decides}
use Rattle.std.proofs.lemmas.List.Elements.{All-head, All-tail}
use Rattle.std.proofs.lemmas.Fmt.{decimal_is_IsNumeral}
use Rattle.std.specs.Str.Parse.{digits_value}
use Rattle.std.specs.Net.Grammar.{IsDotted, IsColonHex}
use Rattle.std.specs.Net.Reader.{read_ipv4, read_ipv6}
use Rattle.std.specs.Result.{result_ok}
use Rattle.std.proofs.NetLemmas.Options.{cond_some, and_then_some, map_some}
use Rattle.std.proofs.NetLemmas.Ipv4.{read_ipv4_complete, read_ipv4_sound}
use Rattle.std.proofs.NetLemmas.Ipv6.{read_ipv6_complete, read_ipv6_sound, EndsGroups-nil, IsDotted-not_colon_hex}
use Rattle.cidr_bits.specs.declared.address.Address.{Address}
use Rattle.cidr_bits.specs.declared.address.Address.TheVariants.{V4, V6}
use Rattle.cidr_bits.specs.declared.address.BadAddress.{BadAddress}
use Rattle.cidr_bits.specs.declared.block.Block.{Block}
use Rattle.cidr_bits.specs.Numbers.{IsAddress, width, network_address}
use Rattle.cidr_bits.specs.Texts.{address_text}
use Rattle.cidr_bits.specs.Blocks.{block_around}
use Rattle.cidr_bits.specs.Forms.{IsAddressText, IsLengthText, IsBlockText, ReadsBlock}
use Rattle.cidr_bits.specs.Readings.{whole_reading, to_end, of_octets, of_groups, address_of, before_slash, from_slash, prefix_written, length_of, block_of, block_spelled}
use Rattle.cidr_bits.specs.Laws.{AddressOfIsTheForm, BlockOfIsTheForm}
use Rattle.cidr_bits.proofs.Around.{block_is_around_its_first}
use Rattle.cidr_bits.proofs.Reading.{NotSlash, address_not_slash}
use Rattle.cidr_bits.proofs.ReadBack.{spells, IsRest, is_rest, width_small}

none_where : {A : Type 0} (o : Option A) → ((x : A) → o ≡ Some x → ⊥) → o ≡ None
none_where None h = refl
none_where (Some x) h = absurd (h x refl)

end_back : (read rest numbers : List ℕ) → whole_reading read rest ≡ Some numbers → (read ≡ numbers) × (rest ≡ [])
end_back read [] numbers h = (same_Some _ _ h, refl)
end_back read (c ∷ rest) numbers h = absurd (cc)

whole_back : (o : Option (List ℕ × List ℕ)) (numbers : List ℕ) → to_end o ≡ Some numbers → o ≡ Some (numbers, [])
whole_back None numbers h = cc
whole_back (Some read) numbers h = let e = end_back read.0 read.1 numbers h in ap₂ (λ a b. Some (a, b)) e.0 e.1

octets_back : (text octets : List ℕ) → to_end (read_ipv4 text) ≡ Some octets → IsDotted text octets
octets_back text octets h =
    let (front, split, dotted) = read_ipv4_sound text octets [] (whole_back _ octets h) in
    subst (λ t. IsDotted t octets) (sym (split ∙ append-nil front)) dotted

octets_forth : (text octets : List ℕ) → IsDotted text octets → to_end (read_ipv4 text) ≡ Some octets
octets_forth text octets h = ap (λ t. to_end (read_ipv4 t)) (sym (append-nil text)) ∙ ap to_end (read_ipv4_complete text octets [] h (lit≤ tt))

groups_back : (text groups : List ℕ) → to_end (read_ipv6 text) ≡ Some groups → IsColonHex text groups
groups_back text groups h =
    let (front, split, spelled) = read_ipv6_sound text groups [] (whole_back _ groups h) in
    subst (λ t. IsColonHex t groups) (sym (split ∙ append-nil front)) spelled

groups_forth : (text groups : List ℕ) → IsColonHex text groups → to_end (read_ipv6 text) ≡ Some groups
groups_forth text groups h = ap (λ t. to_end (read_ipv6 t)) (sym (append-nil text)) ∙ ap to_end (read_ipv6_complete text groups [] h EndsGroups-nil)

abbrev chosen : Option (List ℕ) → Option (List ℕ) → Option Address
chosen octets groups = option_or (option_map of_octets octets) (option_map of_groups groups)

chosen_back : (four six : Option (List ℕ)) (a : Address) → chosen four six ≡ Some a → ((octets : List ℕ) × (four ≡ Some octets) × (of_octets octets ≡ a)) ⊎ ((groups : List ℕ) × (six ≡ Some groups) × (of_groups groups ≡ a))
chosen_back (Some octets) six a h = inl (octets, refl, same_Some _ _ h)
chosen_back None (Some groups) a h = inr (groups, refl, same_Some _ _ h)
chosen_back None None a h = absurd (cc)

pub address_back : (text : List ℕ) (a : Address) → address_of text ≡ Some a → IsAddressText text a
unfolding address_of
address_back text a h =
    elim (chosen_back (to_end (read_ipv4 text)) (to_end (read_ipv6 text)) a h) [
      | inl (octets, read, is) ↦ subst (IsAddressText text) is (octets, octets_back text octets read, refl)
      | inr (groups, read, is) ↦ subst (IsAddressText text) is (groups, groups_back text groups read, refl)
    ]

pub address_forth : (text : List ℕ) (a : Address) → IsAddressText text a → address_of text ≡ Some a
unfolding address_of
address_forth text (V4 n) (octets, dotted, value) =
    ap (λ read. chosen read (to_end (read_ipv6 text))) (octets_forth text octets dotted) ∙ ap (λ n. Some (V4 n)) (sym value)
address_forth text (V6 n) (groups, spelled, value) =
    let none = none_where (to_end (read_ipv4 text)) (λ octets h. IsDotted-not_colon_hex text octets groups (octets_back text octets h) spelled) in
    ap₂ chosen none (groups_forth text groups spelled) ∙ ap (λ n. Some (V6 n)) (sym value)

pub no_address_of : (text : List ℕ) → ((a : Address) → IsAddressText text a → ⊥) → address_of text ≡ None
no_address_of text h = none_where (address_of text) (λ a k. h a (address_back text a k))

pub address_of_is_the_form : AddressOfIsTheForm
address_of_is_the_form text a = (address_back text a, address_forth text a)

pub address_read_again : (a : Address) → IsAddress a → address_of (address_text a) ≡ Some a
address_read_again a fits = address_forth (address_text a) a (spells a fits)

-- the text is split at its first `/`
by_bool : {P : Type 0} (b : Bool) → (b ≡ true → P) → (b ≡ false → P) → P
by_bool true then otherwise = then refl
by_bool false then otherwise = otherwise refl

split_whole : (text : List ℕ) → text ≡ before_slash text ++ from_slash text
split_whole [] = refl
split_whole (c ∷ text) = by_bool (c == 47) (λ t. rw t refl) (λ t. rw t (ap (λ r. c ∷ r) (split_whole text)))

begins_at_slash : (text : List ℕ) → IsRest (from_slash text)
begins_at_slash [] = inl refl
begins_at_slash (c ∷ text) = by_bool (c == 47) (λ t. rw t (inr (text, ap (λ s. s ∷ text) (eqb-true c 47 t)))) (λ t. rw t (begins_at_slash text))

split_there : (front rest : List ℕ) → All NotSlash front → IsRest rest → (before_slash (front ++ rest) ≡ front) × (from_slash (front ++ rest) ≡ rest)
split_there [] rest h (inl e) = rw e (refl, refl)
split_there [] rest h (inr (u, e)) = rw e (refl, refl)
split_there (c ∷ front) rest h r =
    let later = split_there front rest (All-tail NotSlash c front h) r in
    rw (ne_eqb c 47 (All-head NotSlash c front h)) (ap (λ t. c ∷ t) later.0, later.1)

-- the prefix length
written_forth : (bits p n : ℕ) → n ≡ p → p ≤ bits → prefix_written bits (decimal p) n ≡ Some p
written_forth bits p n same within =
    rw (same, le-leb p bits within, (bytes_eq-Decides (decimal p) (decimal p)).1 refl) refl

length_forth : (bits p : ℕ) (text : List ℕ) → bits ≤ 128 → IsLengthText bits text p → length_of bits text ≡ Some p
length_forth bits p text small (inl h) = ap (length_of bits) h.0 ∙ ap Some (sym h.1)
length_forth bits p text small (inr h) = ap (length_of bits) h.0 ∙ written_forth bits p _ (decimal_is_IsNumeral p (omega arith)).1 h.1

both : (a b : Bool) → (a && b) ≡ true → (a ≡ true) × (b ≡ true)
both true b h = (refl, h)
both false b h = absurd (cc)

written_back : (bits p n : ℕ) (digits : List ℕ) → prefix_written bits digits n ≡ Some p → (digits ≡ decimal p) × (p ≤ bits)
written_back bits p n digits h =
    let (holds, same) = cond_some (nat_le n bits && bytes_eq digits (decimal n)) n p h in
    let (within, written) = both (nat_le n bits) (bytes_eq digits (decimal n)) holds in
    let at_most = leb-true n bits within in
    ((bytes_eq-Decides digits (decimal n)).0 written ∙ ap decimal same, subst (λ k. k ≤ bits) same at_most)

length_back : (bits p : ℕ) (text : List ℕ) → IsRest text → length_of bits text ≡ Some p → IsLengthText bits text p
length_back bits p [] r h = inl (refl, sym (same_Some _ _ h))
length_back bits p (c ∷ digits) (inl e) h = absurd (cc)
length_back bits p (c ∷ digits) (inr (u, e)) h =
    let (written, within) = written_back bits p (digits_value 10 digits) digits h in
    let slash : c ≡ 47 = cc in
    inr (ap₂ (λ s t. s ∷ t) slash written, within)

block_forth : (text : List ℕ) (first : Address) (prefix : ℕ) → IsBlockText text first prefix → block_of text ≡ Some (first, prefix)
unfolding block_of
block_forth text first prefix h =
    let apart = split_there h.address_text h.length_text (address_not_slash h.address_text h.address h.is_address) (is_rest _ prefix _ h.is_length) in
    let front = ap before_slash h.spelled ∙ apart.0 in
    let back = ap from_slash h.spelled ∙ apart.1 in
    let address = ap address_of front ∙ address_forth h.address_text h.address h.is_address in
    let length = ap (length_of (width h.address)) back ∙ length_forth (width h.address) prefix h.length_text (width_small h.address) h.is_length in
    ap (option_and_then (λ a. option_map (λ p. (network_address a p, p)) (length_of (width a) (from_slash text)))) address
    ∙ ap (option_map (λ p. (network_address h.address p, p))) length
    ∙ ap (λ a. Some (a, prefix)) (sym h.first_is)

block_back : (text : List ℕ) (first : Address) (prefix : ℕ) → block_of text ≡ Some (first, prefix) → IsBlockText text first prefix
unfolding block_of
block_back text first prefix h =
    and_then_some (λ a. option_map (λ p. (network_address a p, p)) (length_of (width a) (from_slash text))) (address_of (before_slash text)) (first, prefix) h
    λ a address more.
    map_some (λ p. (network_address a p, p)) (length_of (width a) (from_slash text)) (first, prefix) more
    λ p length pair.
    let first_is : network_address a p ≡ first = ap (λ q. q.0) pair in
    let prefix_is : p ≡ prefix = ap (λ q. q.1) pair in
    record {
      address_text = before_slash text;
      length_text = from_slash text;
      address = a;
      spelled = split_whole text;
      is_address = address_back _ a address;
      is_length = length_back (width a) prefix (from_slash text) (begins_at_slash text) (length ∙ ap Some prefix_is);
      first_is = sym first_is ∙ ap (network_address a) prefix_is;
    }

pub block_of_is_the_form : BlockOfIsTheForm
block_of_is_the_form text first prefix = (block_back text first prefix, block_forth text first prefix)

no_block_of : (text : List ℕ) → ((first : Address) (prefix : ℕ) → IsBlockText text first prefix → ⊥) → block_of text ≡ None
no_block_of text h = none_where (block_of text) (λ parts k. h parts.0 parts.1 (block_back text parts.0 parts.1 k))

abbrev around : Address × ℕ → Block
around parts = block_around parts.0 parts.1

pub no_block_spelled : (text : List ℕ) → ((first : Address) (prefix : ℕ) → IsBlockText text first prefix → ⊥) → block_spelled text ≡ None
no_block_spelled text h = ap (option_map around) (no_block_of text h)

-- what the reader of blocks answers is what is computed
pub block_read : (text : List ℕ) (r : Result Block BadAddress) → ReadsBlock text r → result_ok r ≡ block_spelled text
block_read text (Ok block) h = sym (ap (option_map around) (block_forth text block.first block.prefix h) ∙ ap Some (block_is_around_its_first block))
block_read text (Err e) h = sym (no_block_spelled text h)
