-- What the readers read, and that they miss nothing.
use Rattle.std.proofs.Common.{◌≡◌, ◌≢◌, ℕ, zero, suc, ◌^◌, ◌<◌, ◌≤◌, Bool, true, false, List, [], ◌∷◌, ◌++◌, length, get_or, decimal, Some, None, Result, Ok, Err, All, Bor, refl, sym, ap, ◌∙◌, subst, arith, inl, inr, append-nil, lit<}
use Rattle.std.proofs.lemmas.Bool.{cases_lt}
use Rattle.std.proofs.lemmas.List.Elements.{All-head, All-tail, All-nil, All-cons, All-append, All-get_or, All-weaker, All-same}
use Rattle.std.proofs.lemmas.Str.Parse.{IsNumeralModel, numerals_by_value, tells_digits, parse_plain, digit_at}
use Rattle.std.proofs.lemmas.Str.Pattern.{IsSplitOnceResult, split_after, split_parts}
use Rattle.std.proofs.lemmas.Fmt.{decimal_is_IsNumeral, parse-decimal, decimal_digit, first_decimal, decimal-digits_value}
use Rattle.std.proofs.lemmas.Result.{OkIff-at_ok}
use Rattle.std.proofs.NetLemmas.Alphabet.{All-ipv4_text, IsDigitOrDot}
use Rattle.std.proofs.NetLemmas.Ipv6.{IsDotted-not_colon_hex}
use Rattle.std.proofs.NetLemmas.Theorems.{IsIpv4Text_unique, IsIpv6Text_unique}
use Rattle.std.specs.Char.{digit_value}
use Rattle.std.specs.Int.Digits.{number_from_digits}
use Rattle.std.specs.Net.Addr.{ipv4_octets, ipv6_segments}
use Rattle.std.specs.Str.Parse.{AllDigits, digits_value, ParsesUnsigned}
use Rattle.std.specs.Net.Grammar.{IsIpText, IsDotted, IsGroupsAfter, IsColonHex}
use Rattle.std.specs.declared.net.ipv4_addr.Ipv4Addr.{Ipv4Addr}
use Rattle.std.specs.declared.net.ipv6_addr.Ipv6Addr.{Ipv6Addr}
use Rattle.std.specs.declared.net.ip_addr.IpAddr.{IpAddr}
use Rattle.std.specs.declared.net.ip_addr.IpAddr.TheVariants as Ip
use Rattle.cidr_bits.specs.declared.address.Address.{Address}
use Rattle.cidr_bits.specs.declared.address.Address.TheVariants.{V4, V6}
use Rattle.cidr_bits.specs.Numbers.{width, network_address}
use Rattle.cidr_bits.specs.Forms.{IsAddressText, IsBlockText, IsPlain}

-- std's reader misses no address
pub no_address : (text : List ℕ) → ((a : IpAddr) → IsIpText text a → ⊥) → (a : Address) → IsAddressText text a → ⊥
no_address text none (V4 n) (octets, dotted, value) = none (Ip.V4 (record { octets = octets })) dotted
no_address text none (V6 n) (groups, spelled, value) = none (Ip.V6 (record { segments = groups })) spelled

pub own : IsNumeralModel (AllDigits 10) (digits_value 10)
own = numerals_by_value (AllDigits 10) tells_digits

pub IsPlain-decimal : (p : ℕ) → p < 256 → IsPlain (decimal p)
IsPlain-decimal p small =
    let numeral = decimal_is_IsNumeral p (omega arith) in
    let range = digit_at (decimal p) 0 numeral.0.1 numeral.0.0 in
    elim (cases_lt 0 p) [
      | inl more ↦ let above = first_decimal p more (omega arith) in (omega (arith, range), λ h. absurd (omega arith))
      | inr none ↦ let e : decimal p ≡ 48 ∷ [] = ap decimal (omega arith) ∙ decimal_digit 0 (omega arith) in (omega (arith, range), λ h. ap length e)
    ]

module _ {E : Type 0} where
  pub length_is : (text : List ℕ) (r : Result ℕ E) (n : ℕ) → IsPlain text → ParsesUnsigned 8 10 text r → r ≡ Ok n → text ≡ decimal n
  length_is text r n plain parsed e =
      let known = OkIff-at_ok r _ _ n (parse_plain own 8 text r parsed plain.0) e in
      sym (decimal-digits_value own text known.0.0 known.0.1 plain.1 (omega (arith, known.0.2))) ∙ ap decimal (sym known.1)

  pub length_read : (text : List ℕ) (r : Result ℕ E) (p : ℕ) → p < 256 → ParsesUnsigned 8 10 text r → text ≡ decimal p → r ≡ Ok p
  length_read text r p small parsed e = parse-decimal 8 p text r small (omega arith) e parsed

  pub one_ok : (r : Result ℕ E) (m n : ℕ) → r ≡ Ok m → r ≡ Ok n → m ≡ n
  one_ok r m n h k = cc

  pub ok_not_err : (r : Result ℕ E) (m : ℕ) (e : E) → r ≡ Ok m → r ≡ Err e → ⊥
  ok_not_err r m e h k = cc

-- no text of an address holds the `/` that stands before a prefix length
abbrev pub NotSlash : ℕ → Type 0
NotSlash c = c ≢ 47

digit_not_slash : (c : ℕ) → digit_value c < 16 → NotSlash c
digit_not_slash c h e = let P : ℕ → Type 0 = λ k. digit_value k < 16 in let no : 36 < 16 = subst P e h in omega arith

digits_not_slash : (text : List ℕ) → AllDigits 16 text → All NotSlash text
digits_not_slash [] h = All-nil NotSlash
digits_not_slash (c ∷ text) h = All-cons NotSlash c text (digit_not_slash c h.0) (digits_not_slash text h.1)

dot_not_slash : (c : ℕ) → IsDigitOrDot c → NotSlash c
dot_not_slash c (inl h) e = omega arith
dot_not_slash c (inr h) e = omega arith

four_fit : (a b c d k : ℕ) → (a < 256) × (b < 256) × (c < 256) × (d < 256) → get_or (a ∷ b ∷ c ∷ d ∷ []) k 0 < 2 ^ 8
four_fit a b c d zero fit = fit.0
four_fit a b c d (suc zero) fit = fit.1
four_fit a b c d (suc (suc zero)) fit = fit.2
four_fit a b c d (suc (suc (suc zero))) fit = fit.3
four_fit a b c d (suc (suc (suc (suc k)))) fit = omega arith

dotted_not_slash : (text octets : List ℕ) → IsDotted text octets → All NotSlash text
dotted_not_slash text octets d =
    let digits = All-ipv4_text (d.a ∷ d.b ∷ d.c ∷ d.d ∷ []) (λ k. four_fit d.a d.b d.c d.d k d.fit) in
    All-same NotSlash text _ d.spelled (All-weaker IsDigitOrDot NotSlash (λ c h. dot_not_slash c h) _ digits)

groups_not_slash : (ipv4 : Bool) (lead text segments : List ℕ) → All NotSlash lead → IsGroupsAfter ipv4 lead text segments → All NotSlash text
groups_not_slash ipv4 lead text [] led h = All-same NotSlash text [] h (All-nil NotSlash)
groups_not_slash ipv4 lead text (s ∷ segments) led (inl h) =
    let (group, rest, spelled, is_group, more) = h in
    let later = groups_not_slash ipv4 (58 ∷ []) rest segments (All-cons NotSlash 58 [] (omega arith) (All-nil NotSlash)) more in
    All-same NotSlash text _ spelled (All-append NotSlash _ _ (All-append NotSlash _ _ led (digits_not_slash group is_group.0.0.1)) later)
groups_not_slash ipv4 lead text (s ∷ segments) led (inr h) =
    let (last, octets, allowed, spelled, dotted, value) = h in
    All-same NotSlash text _ spelled (All-append NotSlash lead last led (dotted_not_slash last octets dotted))

hex_not_slash : (text segments : List ℕ) → IsColonHex text segments → All NotSlash text
hex_not_slash text segments (inl h) = groups_not_slash true [] text segments (All-nil NotSlash) h.0
hex_not_slash text segments (inr h) =
    let head = groups_not_slash false [] h.head_text h.head (All-nil NotSlash) h.head_groups in
    let tail = groups_not_slash true [] h.tail_text h.tail (All-nil NotSlash) h.tail_groups in
    let colons : All NotSlash (58 ∷ 58 ∷ []) = All-cons NotSlash 58 (58 ∷ []) (omega arith) (All-cons NotSlash 58 [] (omega arith) (All-nil NotSlash)) in
    All-same NotSlash text _ h.spelled (All-append NotSlash _ _ (All-append NotSlash _ _ head colons) tail)

pub address_not_slash : (text : List ℕ) (a : Address) → IsAddressText text a → All NotSlash text
address_not_slash text (V4 n) (octets, dotted, value) = dotted_not_slash text octets dotted
address_not_slash text (V6 n) (groups, spelled, value) = hex_not_slash text groups spelled

holds_slash : (xs ys : List ℕ) → All NotSlash (xs ++ (47 ∷ ys)) → ⊥
holds_slash [] ys h = All-head NotSlash 47 ys h refl
holds_slash (x ∷ xs) ys h = holds_slash xs ys (All-tail NotSlash x _ h)

before_slash : (text : List ℕ) → All NotSlash text → (i : ℕ) → i < length text → get_or text i 0 ≢ 47
before_slash text h i within = All-get_or NotSlash text i 0 within h

-- a text spells one address at most
pub one_address : (text : List ℕ) (a b : Address) → IsAddressText text a → IsAddressText text b → a ≡ b
one_address text (V4 m) (V4 n) h k =
    let same = IsIpv4Text_unique text (record { octets = h.0 }) (record { octets = k.0 }) h.1 k.1 in
    let octets : h.0 ≡ k.0 = ap (λ (a : Ipv4Addr). ipv4_octets a) same in
    ap V4 (h.2 ∙ ap (number_from_digits 256) octets ∙ sym k.2)
one_address text (V4 m) (V6 n) h k = absurd (IsDotted-not_colon_hex text _ _ h.1 k.1)
one_address text (V6 m) (V4 n) h k = absurd (IsDotted-not_colon_hex text _ _ k.1 h.1)
one_address text (V6 m) (V6 n) h k =
    let same = IsIpv6Text_unique text (record { segments = h.0 }) (record { segments = k.0 }) h.1 k.1 in
    let groups : h.0 ≡ k.0 = ap (λ (a : Ipv6Addr). ipv6_segments a) same in
    ap V6 (h.2 ∙ ap (number_from_digits 65536) groups ∙ sym k.2)

-- a block without a prefix length
pub whole_block : (text : List ℕ) (a first : Address) (bits prefix : ℕ) → IsAddressText text a → first ≡ network_address a bits → prefix ≡ bits → bits ≡ width a → IsBlockText text first prefix
whole_block text a first bits prefix h first_is prefix_is all = record {
  address_text = text;
  length_text = [];
  address = a;
  spelled = sym (append-nil text);
  is_address = h;
  is_length = inl (refl, prefix_is ∙ all);
  first_is = first_is ∙ ap (network_address a) (sym prefix_is);
}

-- and with one, split at the first `/`
pub parts_block : (text front length : List ℕ) (a first : Address) (read prefix : ℕ) → text ≡ front ++ (47 ∷ length) → IsAddressText front a → length ≡ decimal read → read ≤ width a → first ≡ network_address a read → prefix ≡ read → IsBlockText text first prefix
parts_block text front length a first read prefix split h written fits first_is prefix_is = record {
  address_text = front;
  length_text = 47 ∷ length;
  address = a;
  spelled = split;
  is_address = h;
  is_length = inr (ap (λ t. 47 ∷ t) (written ∙ ap decimal (sym prefix_is)), omega arith);
  first_is = first_is ∙ ap (network_address a) (sym prefix_is);
}

-- the parts of the text of a block with `/`
pub record IsParts (front length : List ℕ) (h : Address) (prefix : ℕ) : Type 0 where
  pub address : IsAddressText front h
  pub written : length ≡ decimal prefix
  pub fits : prefix ≤ width h

module _ (text : List ℕ) (first : Address) (prefix : ℕ) (h : IsBlockText text first prefix) where
  shown : (h.length_text ≡ 47 ∷ decimal prefix) → text ≡ h.address_text ++ (47 ∷ decimal prefix)
  shown e = h.spelled ∙ ap (λ t. h.address_text ++ t) e

  alone : (h.length_text ≡ []) → text ≡ h.address_text
  alone e = h.spelled ∙ ap (λ t. h.address_text ++ t) e ∙ append-nil h.address_text

  clean : (i : ℕ) → i < length h.address_text → get_or h.address_text i 0 ≢ 47
  clean = before_slash h.address_text (address_not_slash h.address_text h.address h.is_address)

  pub no_whole : IsSplitOnceResult 47 text None → ((a : Address) → IsAddressText text a → ⊥) → ⊥
  no_whole split none =
      elim h.is_length [
        | inl e ↦ none h.address (subst (λ t. IsAddressText t h.address) (sym (alone e.0)) h.is_address)
        | inr e ↦ split_after 47 text h.address_text (decimal prefix) None split (lit< tt) (shown e.0) clean
      ]

  pub parts_at : (front length : Bor (List ℕ)) → IsSplitOnceResult 47 text (Some (front, length)) → IsParts front.now length.now h.address prefix
  parts_at front length split =
      let parts = split_parts 47 text (Some (front, length)) split (lit< tt) in
      elim h.is_length [
        | inl e ↦
            let all : All NotSlash text = All-same NotSlash text _ (alone e.0) (address_not_slash h.address_text h.address h.is_address) in
            absurd (holds_slash front.now length.now (All-same NotSlash _ text (sym parts.0) all))
        | inr e ↦
            let same = split_after 47 text h.address_text (decimal prefix) (Some (front, length)) split (lit< tt) (shown e.0) clean in
            record {
              address = subst (λ t. IsAddressText t h.address) (sym same.0) h.is_address;
              written = same.1;
              fits = e.1;
            }
      ]

pub split_text : (text : List ℕ) (front length : Bor (List ℕ)) → IsSplitOnceResult 47 text (Some (front, length)) → text ≡ front.now ++ (47 ∷ length.now)
split_text text front length split = (split_parts 47 text (Some (front, length)) split (lit< tt)).0

-- no prefix length was read, though an address was
pub no_length : (front length : List ℕ) (a h : Address) (prefix : ℕ) → IsAddressText front a → IsParts front length h prefix → ((p : ℕ) → p ≤ width a → length ≡ decimal p → ⊥) → ⊥
no_length front length a h prefix read parts none =
    let same : h ≡ a = one_address front h a parts.address read in
    none prefix (omega (arith, parts.fits, ap width same)) parts.written
