-- What base64 stands for is bytes, so that two lists of it are equal where their base64 is.
use Rattle.std.proofs.Common.{◌≡◌, ◌⊎◌, ℕ, zero, suc, ◌+◌, ◌*◌, ◌/◌, ◌%◌, ◌<◌, ◌≤◌, ◌==◌, nat_lt, Bool, true, false, if◌then◌else◌, List, [], ◌∷◌, length, drop, All as Each, Option, Some, None, Result, Ok, Err, refl, ap, sym, ◌∙◌, subst, arith, inl, inr}
use Rattle.std.specs.Prelude.{slice_index, slice_set}
use Rattle.std.specs.Result.{result_ok}
use Rattle.std.proofs.Math.ListN.{get_or-eq_default}
use Rattle.std.proofs.lemmas.Bool.{cases_lt, eq-eqb}
use Rattle.std.proofs.lemmas.List.Elements.{All-append, All-cons, All-nil, All-take}
use Rattle.std.proofs.lemmas.Option.{same_Some}
use Rattle.base64.specs.Engines.{standard}
use Rattle.base64.specs.GeneralPurpose.{decoded_of, encode_of}
use Rattle.base64.specs.Decode.{decode_error, decode_group, decode_outcome, decoded_bytes, group_bytes, group_error, groups_before_last, groups_bytes, groups_error, lone_error, no_leftover, or_else, push_leftover, scan_bytes, scan_last, scan_steps, suffix_error, symbol_error}
use Rattle.base64.specs.declared.decode.DecodeError.{DecodeError}
use Rattle.base64.specs.declared.decode.DecodeError.TheVariants.{InvalidByte}
use Rattle.base64.specs.declared.engine.DecodePaddingMode.{DecodePaddingMode}
use Rattle.base64.proofs.EngineFacts.{decode_of-encode_of}
use Rattle.base64.proofs.Tables.{IsDecodeTable_from, are_tables_inverse}

abbrev IsByte : ℕ → Type 0
IsByte b = b < 256

-- what is known of the last group so far, whose type has no name here
abbrev TypeOf : {A : Type 0} → A → Type 0
TypeOf {A} x = A

abbrev Leftover : Type 0
Leftover = TypeOf no_leftover

-- ---- errors

none-both : (x y : Option DecodeError) → or_else x y ≡ None → (x ≡ None) × (y ≡ None)
none-both None y e = (refl, e)
none-both (Some x) y e = absurd (cc)

passed : (b : Bool) (x : DecodeError) → (if b then Some x else None) ≡ None → b ≡ false
passed true x e = absurd (cc)
passed false x e = refl

module _ (dec : List ℕ) (table : (x : ℕ) → (slice_index dec x ≡ 255) ⊎ (slice_index dec x < 64)) where
  symbol-six : (x : ℕ) → (slice_index dec x == 255) ≡ false → slice_index dec x < 64
  symbol-six x e = elim (table x) [
    | inl bad ↦ let is = eq-eqb (slice_index dec x) 255 bad in absurd (cc)
    | inr six ↦ six
  ]

  -- ---- groups of four

  six-at : (s : List ℕ) (i : ℕ) → symbol_error dec s i ≡ None → slice_index dec (slice_index s i) < 64
  six-at s i e = symbol-six (slice_index s i) (passed (slice_index dec (slice_index s i) == 255) (InvalidByte i (slice_index s i)) e)

  three : (a b c d : ℕ) → a < 64 → b < 64 → c < 64 → d < 64 → Each IsByte (decode_group a b c d)
  three a b c d ha hb hc hd =
      let first : a * 4 + b / 16 < 256 = omega (arith, ha, hb) in
      let second : b % 16 * 16 + c / 4 < 256 = omega (arith, hb, hc) in
      let third : c % 4 * 64 + d < 256 = omega (arith, hc, hd) in
      All-cons IsByte (a * 4 + b / 16) ((b % 16 * 16 + c / 4) ∷ (c % 4 * 64 + d) ∷ []) first
      (All-cons IsByte (b % 16 * 16 + c / 4) ((c % 4 * 64 + d) ∷ []) second (All-cons IsByte (c % 4 * 64 + d) [] third (All-nil IsByte)))

  group-below : (s : List ℕ) (i : ℕ) → group_error dec s i ≡ None → Each IsByte (group_bytes dec s i)
  group-below s i e =
      let first = none-both (symbol_error dec s i) _ e in
      let second = none-both (symbol_error dec s (i + 1)) _ first.1 in
      let rest = none-both (symbol_error dec s (i + 2)) (symbol_error dec s (i + 3)) second.1 in
      three _ _ _ _ (six-at s i first.0) (six-at s (i + 1) second.0) (six-at s (i + 2) rest.0) (six-at s (i + 3) rest.1)

  groups-below : (s : List ℕ) (q : ℕ) → groups_error dec s q ≡ None → Each IsByte (groups_bytes dec s q)
  unfolding groups_error groups_bytes
  groups-below s zero e = All-nil IsByte
  groups-below s (suc q) e =
      let parts = none-both (groups_error dec s q) (group_error dec s (4 * q)) e in
      All-append IsByte (groups_bytes dec s q) (group_bytes dec s (4 * q)) (groups-below s q parts.0) (group-below s (4 * q) parts.1)

  -- ---- the last group

  abbrev AreSix : List ℕ → Type 0
  AreSix ms = (i : ℕ) → slice_index ms i < 64

  set-six : (ms : List ℕ) (k v : ℕ) → AreSix ms → v < 64 → AreSix (slice_set ms k v)
  set-six [] k v six small i = six i
  set-six (m ∷ ms) zero v six small zero = small
  set-six (m ∷ ms) zero v six small (suc i) = six (suc i)
  set-six (m ∷ ms) (suc k) v six small zero = six zero
  set-six (m ∷ ms) (suc k) v six small (suc i) = set-six ms k v (λ j. six (suc j)) small i

  abbrev KeepsSix : Result Leftover DecodeError → Type 0
  KeepsSix r = (next : Leftover) → r ≡ Ok next → AreSix next.morsels

  refused : (x : DecodeError) → KeepsSix (Err x)
  refused x next e = absurd (cc)

  kept : (st : Leftover) → AreSix st.morsels → KeepsSix (Ok st)
  kept st six next e = let same : st ≡ next = cc in subst (λ (x : Leftover). AreSix x.morsels) same six

  branch : (b : Bool) (x y : Result Leftover DecodeError) → KeepsSix x → (b ≡ false → KeepsSix y) → KeepsSix (if b then x else y)
  branch true x y first other = first
  branch false x y first other = other refl

  pushed : (pad at : ℕ) (st : Leftover) (i b : ℕ) → AreSix st.morsels → KeepsSix (push_leftover dec pad at st i b)
  pushed pad at st i b six =
      branch (b == pad) _ _ (branch (nat_lt i 2) _ _ (refused _) (λ _. kept _ six))
      (λ _. branch (nat_lt 0 st.padding_count) _ _ (refused _)
      (λ _. branch (slice_index dec b == 255) _ _ (refused _)
      (λ symbol. kept _ (set-six st.morsels st.morsels_count (slice_index dec b) six (symbol-six b symbol)))))

  -- the rest is scanned only where nothing was refused
  rest-scanned : (pad at i : ℕ) (bs : List ℕ) (r : Result Leftover DecodeError) → KeepsSix r → ((st : Leftover) → AreSix st.morsels → KeepsSix (scan_steps dec pad at (Ok st) i bs)) → KeepsSix (scan_steps dec pad at r i bs)
  unfolding scan_steps
  rest-scanned pad at i bs (Ok st) keeps later = later st (keeps st refl)
  rest-scanned pad at i bs (Err x) keeps later = refused x

  scanned : (pad at : ℕ) (bs : List ℕ) (st : Leftover) (i : ℕ) → AreSix st.morsels → KeepsSix (scan_steps dec pad at (Ok st) i bs)
  unfolding scan_steps
  scanned pad at [] st i six = kept st six
  scanned pad at (b ∷ bs) st i six =
      rest-scanned pad at (i + 1) bs (push_leftover dec pad at st i b) (pushed pad at st i b six) (λ next keeps. scanned pad at bs next (i + 1) keeps)

  none-six : AreSix no_leftover.morsels
  none-six zero = omega arith
  none-six (suc zero) = omega arith
  none-six (suc (suc zero)) = omega arith
  none-six (suc (suc (suc zero))) = omega arith
  none-six (suc (suc (suc (suc i)))) = omega arith

  last-below : (r : Result Leftover DecodeError) → KeepsSix r → Each IsByte (scan_bytes r)
  last-below (Ok st) keeps =
      let six = keeps st refl in
      All-take IsByte _ _ (three _ _ _ _ (six 0) (six 1) (six 2) (six 3))
  last-below (Err x) keeps = All-nil IsByte

  decoded-below : (pad : ℕ) (allow : Bool) (mode : DecodePaddingMode) (s : List ℕ) → decode_error dec pad allow mode s ≡ None → Each IsByte (decoded_bytes dec pad s)
  decoded-below pad allow mode s e =
      let q = groups_before_last (length s) in
      let behind = none-both (lone_error dec pad s) _ e in
      let parts = none-both (groups_error dec s q) (suffix_error dec pad allow mode (4 * q) s) behind.1 in
      All-append IsByte (groups_bytes dec s q) (scan_bytes (scan_last dec pad (4 * q) s)) (groups-below s q parts.0)
      (last-below (scan_last dec pad (4 * q) s) (scanned pad (4 * q) (drop (4 * q) s) no_leftover 0 none-six))

-- ---- the standard alphabet

standard-table : (x : ℕ) → (slice_index standard.decode_table x ≡ 255) ⊎ (slice_index standard.decode_table x < 64)
standard-table x = elim (cases_lt x 256) [
  | inl within ↦ IsDecodeTable_from standard.encode_table standard.decode_table (are_tables_inverse standard.encode_table standard.decode_table standard.padding.value standard.tables) x within
  | inr past ↦
      let long : length standard.decode_table ≡ 256 = refl in
      let behind : length standard.decode_table ≤ x = omega (arith, long, past) in
      let none : slice_index standard.decode_table x ≡ 0 = get_or-eq_default standard.decode_table 0 {n = x} behind in
      inr (subst (λ (n : ℕ). n < 64) (sym none) (omega arith))
]

outcome-ok : (x : Option DecodeError) (bytes b : List ℕ) → result_ok (decode_outcome x bytes) ≡ Some b → (x ≡ None) × (bytes ≡ b)
outcome-ok None bytes b e = (refl, same_Some _ _ e)
outcome-ok (Some x) bytes b e = absurd (cc)

-- what base64 stands for is bytes
pub decoded-bytes : (text bytes : List ℕ) → decoded_of standard text ≡ Some bytes → Each (λ b. b < 256) bytes
unfolding decoded_of
decoded-bytes text bytes e =
    let parts = outcome-ok _ _ bytes e in
    subst (Each IsByte) parts.1 (decoded-below standard.decode_table standard-table standard.padding.value standard.config.decode_allow_trailing_bits standard.config.decode_padding_mode text parts.0)

byte-at : (bs : List ℕ) (i : ℕ) → Each IsByte bs → (i < length bs) ⊎ (length bs ≤ i) → slice_index bs i < 256
byte-at bs i all (inl within) = all i 0 within
byte-at bs i all (inr past) = subst (λ (b : ℕ). b < 256) (sym (get_or-eq_default bs 0 past)) (omega arith)

pub bytes-again : (bs : List ℕ) → Each (λ b. b < 256) bs → decoded_of standard (encode_of standard bs) ≡ Some bs
unfolding decoded_of
bytes-again bs all = ap result_ok (decode_of-encode_of standard bs refl (λ i. byte-at bs i all (cases_lt i (length bs))))

-- two lists of bytes are equal where their base64 is
pub bytes-apart : (bs cs : List ℕ) → Each (λ b. b < 256) bs → Each (λ b. b < 256) cs → encode_of standard bs ≡ encode_of standard cs → bs ≡ cs
bytes-apart bs cs first second same =
    same_Some bs cs (sym (bytes-again bs first) ∙ ap (decoded_of standard) same ∙ bytes-again cs second)
