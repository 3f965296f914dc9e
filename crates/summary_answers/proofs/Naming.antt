-- The slots of names: which are known, and that names that differ in more than the case of letters have different ones.
use Rattle.std.proofs.Common.{◌≡◌, ◌≢◌, ◌∙◌, ◌⊎◌, ◌<◌, ◌≤◌, ◌+◌, ◌&&◌, ◌||◌, ℕ, zero, suc, List, [], ◌∷◌, ◌++◌, map, length, get_or, take, drop, Bool, true, false, not, All, AllPairs, codes, drop-cons, arith, refl, sym, ap, subst, inl, inr}
use Rattle.std.specs.Prelude.{if◌then◌else◌, nat_lt, String, string_bytes}
use Rattle.std.specs.Char.{to_ascii_lowercase}
use Rattle.std.specs.Str.{IsUtf8, bytes_eq, chars, encode_utf8_all}
use Rattle.std.proofs.lemmas.Bool.{cases_Bool}
use Rattle.std.proofs.lemmas.Bool.Decides.{nat_tests}
use Rattle.std.proofs.lemmas.List.{get_or-map, length-map, map-append, map_more, take-append-drop}
use Rattle.std.proofs.lemmas.List.Elements.{All-map, All-more}
use Rattle.std.proofs.lemmas.Slice.Eq.{bytes_eq-Decides}
use Rattle.std.proofs.lemmas.Str.{encodes-chars}
use Rattle.std.proofs.lemmas.Str.Ascii.{lowercase_ascii, lowercase_is}
use lib.Utf8.{encode}
use Rattle.command_words.specs.Asked.{are_dimensions, are_distinct, is_one_of, lower_case, texts_in}
use Rattle.command_words.specs.declared.limits.TheConstants.{MOST_DIMENSIONS}
use Rattle.policy_model.specs.declared.schema.Schema.{Schema}
use Rattle.policy_model.specs.declared.test.Slot.{Slot}
use Rattle.policy_model.specs.declared.test.Slot.TheVariants.{Principal, Action, Resource, Key}
use Rattle.policy_model.specs.Soundness.{SchemaIsSound}
use Rattle.request_schema.specs.BuiltIn.{folded_name}
use Rattle.slot_theory.specs.Slots.{SlotIsIn}
use Rattle.summary_search.specs.Outcomes.{AreAskable}
use Rattle.summary_answers.specs.Dimensions.{NameSlots, IsFirstUnknown, NamesSlot, dimension_slot, dimension_slots}

-- ---- one name more

-- the text of an item that was read
pub name-at : {Z : Type 0} (names : List (String Z)) (i : ℕ) (item : String Z) → i < length names → item ≡ get_or names i item → string_bytes item ≡ get_or (texts_in names) i (string_bytes item)
name-at {Z} names i item within is = ap (λ (s : String Z). string_bytes s) is ∙ sym (get_or-map (λ (s : String Z). string_bytes s) names i item (string_bytes item) within)

pub within-texts : {Z : Type 0} (names : List (String Z)) (i : ℕ) → i < length names → i < length (texts_in names)
within-texts {Z} names i within = subst (λ (n : ℕ). i < n) (sym (length-map names (λ (s : String Z). string_bytes s))) within

pub past-texts : {Z : Type 0} (names : List (String Z)) (i : ℕ) → length names ≤ i → length (texts_in names) ≤ i
past-texts {Z} names i past = subst (λ (n : ℕ). n ≤ i) (sym (length-map names (λ (s : String Z). string_bytes s))) past

-- the slots of known names are known
known-slots : (schema : Schema) (names : List (List ℕ)) → NameSlots schema names → All (SlotIsIn schema) (dimension_slots names)
known-slots schema names known = All-map (SlotIsIn schema) dimension_slot names known

pub slots-more : (names : List (List ℕ)) (i : ℕ) (w : List ℕ) (slots : List Slot) (slot : Slot) → i < length names → w ≡ get_or names i w → slots ≡ dimension_slots (take i names) → slot ≡ dimension_slot w → slots ++ slot ∷ [] ≡ dimension_slots (take (i + 1) names)
slots-more names i w slots slot within at before is =
    ap (λ (x : List Slot). x ++ slot ∷ []) before
    ∙ ap (λ (x : Slot). dimension_slots (take i names) ++ x ∷ []) (is ∙ ap dimension_slot at)
    ∙ sym (map_more dimension_slot names i w within)

pub known-more : (schema : Schema) (names : List (List ℕ)) (i : ℕ) (w : List ℕ) → i < length names → w ≡ get_or names i w → NameSlots schema (take i names) → NamesSlot schema w → NameSlots schema (take (i + 1) names)
known-more schema names i w within at before is = All-more (NamesSlot schema) names i w within before (subst (NamesSlot schema) at is)

pub utf8-more : (names : List (List ℕ)) (i : ℕ) (w : List ℕ) → i < length names → w ≡ get_or names i w → All IsUtf8 (take i names) → IsUtf8 w → All IsUtf8 (take (i + 1) names)
utf8-more names i w within at before is = All-more IsUtf8 names i w within before (subst IsUtf8 at is)

-- the first name that isn't known
pub unknown-at : (schema : Schema) (names : List (List ℕ)) (i : ℕ) (w : List ℕ) → i < length names → w ≡ get_or names i w → NameSlots schema (take i names) → ¬ NamesSlot schema w → IsFirstUnknown schema names (chars w)
unknown-at schema names i w within at before unknown = record {
  before = take i names;
  name = w;
  behind = drop (suc i) names;
  is =
      sym (take-append-drop i names)
      ∙ ap (λ (x : List (List ℕ)). take i names ++ x) (drop-cons names i w within)
      ∙ ap (λ (x : List ℕ). take i names ++ x ∷ drop (suc i) names) (sym at);
  known = before;
  unknown = unknown;
  written = refl;
}

-- ---- the bytes of letters

below : (c n : ℕ) → nat_lt c n ≡ true → c < n
below c n e = grind (arith, nat_tests)

above : (c n : ℕ) → nat_lt c n ≡ false → n ≤ c
above c n e = grind (arith, nat_tests)

is-below : (c n : ℕ) → c < n → nat_lt c n ≡ true
is-below c n h = grind (arith, nat_tests)

stay : (x : ℕ) → 90 < x → to_ascii_lowercase x ≡ x
stay x far = (lowercase_is x).2 far

one-byte : (c : ℕ) → nat_lt c 128 ≡ true → encode c ≡ c ∷ []
unfolding encode
one-byte c e = rw e refl

two-stay : (x y : ℕ) → 90 < x → 90 < y → map to_ascii_lowercase (x ∷ y ∷ []) ≡ x ∷ y ∷ []
two-stay x y h k = let a = stay x h in let b = stay y k in cc

three-stay : (x y z : ℕ) → 90 < x → 90 < y → 90 < z → map to_ascii_lowercase (x ∷ y ∷ z ∷ []) ≡ x ∷ y ∷ z ∷ []
three-stay x y z h k l = let a = stay x h in let b = stay y k in let c = stay z l in cc

four-stay : (x y z w : ℕ) → 90 < x → 90 < y → 90 < z → 90 < w → map to_ascii_lowercase (x ∷ y ∷ z ∷ w ∷ []) ≡ x ∷ y ∷ z ∷ w ∷ []
four-stay x y z w h k l m = let a = stay x h in let b = stay y k in let c = stay z l in let d = stay w m in cc

-- no byte of a character past ASCII is a letter
bytes-stay : (c : ℕ) → nat_lt c 128 ≡ false → map to_ascii_lowercase (encode c) ≡ encode c
unfolding encode
bytes-stay c far =
    elim (cases_Bool (nat_lt c 2048)) [
      | inl e ↦ rw (far, e) (two-stay _ _ (omega arith) (omega arith))
      | inr e ↦ elim (cases_Bool (nat_lt c 65536)) [
        | inl f ↦ rw (far, e, f) (three-stay _ _ _ (omega arith) (omega arith) (omega arith))
        | inr f ↦ rw (far, e, f) (four-stay _ _ _ _ (omega arith) (omega arith) (omega arith) (omega arith))
      ]
    ]

lower-one : (c : ℕ) → map to_ascii_lowercase (encode c) ≡ encode (to_ascii_lowercase c)
lower-one c =
    elim (cases_Bool (nat_lt c 128)) [
      | inl e ↦
          ap (λ (bs : List ℕ). map to_ascii_lowercase bs) (one-byte c e)
          ∙ sym (one-byte (to_ascii_lowercase c) (is-below (to_ascii_lowercase c) 128 (lowercase_ascii c (below c 128 e))))
      | inr e ↦
          let far : 128 ≤ c = above c 128 e in
          bytes-stay c e ∙ ap encode (sym (stay c (omega arith)))
    ]

lower-all : (cs : List ℕ) → map to_ascii_lowercase (encode_utf8_all cs) ≡ encode_utf8_all (map to_ascii_lowercase cs)
lower-all [] = refl
lower-all (c ∷ cs) =
    map-append to_ascii_lowercase (encode c) (encode_utf8_all cs)
    ∙ ap (λ (bs : List ℕ). bs ++ map to_ascii_lowercase (encode_utf8_all cs)) (lower-one c)
    ∙ ap (λ (bs : List ℕ). encode (to_ascii_lowercase c) ++ bs) (lower-all cs)

-- texts whose names of keys are the same are the same but for the case of letters
same-letters : (a b : List ℕ) → IsUtf8 a → IsUtf8 b → folded_name a ≡ folded_name b → lower_case a ≡ lower_case b
same-letters a b first second same =
    let one : lower_case a ≡ encode_utf8_all (folded_name a) = ap lower_case (sym (encodes-chars a first)) ∙ lower-all (chars a) in
    let other : lower_case b ≡ encode_utf8_all (folded_name b) = ap lower_case (sym (encodes-chars b second)) ∙ lower-all (chars b) in
    one ∙ ap encode_utf8_all same ∙ sym other

-- ---- names and slots

abbrev picked : Bool → Bool → Bool → Slot → Slot
picked p a r key = if p then Principal else if a then Action else if r then Resource else key

-- the slot of a name is one of the three by its own name, and otherwise the key
abbrev IsNamed : List ℕ → Slot → Slot → Type 0
IsNamed w key s =
    ((w ≡ codes "principal") × (s ≡ Principal)) ⊎ (((w ≡ codes "action") × (s ≡ Action)) ⊎
    (((w ≡ codes "resource") × (s ≡ Resource)) ⊎ (s ≡ key)))

named-by : (w : List ℕ) (key : Slot) (p a r : Bool) → bytes_eq w (codes "principal") ≡ p → bytes_eq w (codes "action") ≡ a → bytes_eq w (codes "resource") ≡ r → IsNamed w key (picked p a r key)
named-by w key true a r e f g = inl ((bytes_eq-Decides w (codes "principal")).0 e, refl)
named-by w key false true r e f g = inr (inl ((bytes_eq-Decides w (codes "action")).0 f, refl))
named-by w key false false true e f g = inr (inr (inl ((bytes_eq-Decides w (codes "resource")).0 g, refl)))
named-by w key false false false e f g = inr (inr (inr refl))

named : (w : List ℕ) → IsNamed w (Key (folded_name w)) (dimension_slot w)
named w = named-by w (Key (folded_name w)) (bytes_eq w (codes "principal")) (bytes_eq w (codes "action")) (bytes_eq w (codes "resource")) refl refl refl

-- names of one slot are the same but for the case of letters
same-slot : (a b : List ℕ) → IsUtf8 a → IsUtf8 b → (s t : Slot) → s ≡ t → IsNamed a (Key (folded_name a)) s → IsNamed b (Key (folded_name b)) t → lower_case a ≡ lower_case b
same-slot a b u v s t e (inl x) (inl y) = ap lower_case (x.0 ∙ sym y.0)
same-slot a b u v s t e (inr (inl x)) (inr (inl y)) = ap lower_case (x.0 ∙ sym y.0)
same-slot a b u v s t e (inr (inr (inl x))) (inr (inr (inl y))) = ap lower_case (x.0 ∙ sym y.0)
same-slot a b u v s t e (inr (inr (inr x))) (inr (inr (inr y))) =
    let keys : Key (folded_name a) ≡ Key (folded_name b) = sym x ∙ e ∙ y in
    let same : folded_name a ≡ folded_name b = cc in
    same-letters a b u v same
same-slot a b u v s t e (inl x) (inr (inl y)) = let p = x.1 in let q = y.1 in absurd (cc)
same-slot a b u v s t e (inl x) (inr (inr (inl y))) = let p = x.1 in let q = y.1 in absurd (cc)
same-slot a b u v s t e (inl x) (inr (inr (inr y))) = let p = x.1 in absurd (cc)
same-slot a b u v s t e (inr (inl x)) (inl y) = let p = x.1 in let q = y.1 in absurd (cc)
same-slot a b u v s t e (inr (inl x)) (inr (inr (inl y))) = let p = x.1 in let q = y.1 in absurd (cc)
same-slot a b u v s t e (inr (inl x)) (inr (inr (inr y))) = let p = x.1 in absurd (cc)
same-slot a b u v s t e (inr (inr (inl x))) (inl y) = let p = x.1 in let q = y.1 in absurd (cc)
same-slot a b u v s t e (inr (inr (inl x))) (inr (inl y)) = let p = x.1 in let q = y.1 in absurd (cc)
same-slot a b u v s t e (inr (inr (inl x))) (inr (inr (inr y))) = let p = x.1 in absurd (cc)
same-slot a b u v s t e (inr (inr (inr x))) (inl y) = let q = y.1 in absurd (cc)
same-slot a b u v s t e (inr (inr (inr x))) (inr (inl y)) = let q = y.1 in absurd (cc)
same-slot a b u v s t e (inr (inr (inr x))) (inr (inr (inl y))) = let q = y.1 in absurd (cc)

-- ---- names that differ

and-left : (a b : Bool) → a && b ≡ true → a ≡ true
and-left true b e = refl
and-left false b e = absurd (cc)

and-right : (a b : Bool) → a && b ≡ true → b ≡ true
and-right true b e = e
and-right false b e = absurd (cc)

or-none : (a b : Bool) → not (a || b) ≡ true → (a ≡ false) × (not b ≡ true)
or-none true b e = absurd (cc)
or-none false b e = (refl, e)

not-one : (t : List ℕ) (ts : List (List ℕ)) → not (is_one_of t ts) ≡ true → (j : ℕ) → j < length ts → get_or ts j [] ≢ t
not-one t [] e j within same = absurd (omega arith)
not-one t (u ∷ ts) e zero within same = let apart : bytes_eq u t ≡ false = (or-none (bytes_eq u t) (is_one_of t ts) e).0 in let equal = (bytes_eq-Decides u t).1 same in absurd (cc)
not-one t (u ∷ ts) e (suc j) within same = not-one t ts (or-none (bytes_eq u t) (is_one_of t ts) e).1 j (omega arith) same

distinct-at : (ts : List (List ℕ)) → are_distinct ts ≡ true → (i j : ℕ) → i < j → j < length ts → get_or ts i [] ≢ get_or ts j []
distinct-at [] e i j low within same = absurd (omega arith)
distinct-at (t ∷ ts) e i zero low within same = absurd (omega arith)
distinct-at (t ∷ ts) e zero (suc j) low within same = not-one t ts (and-left (not (is_one_of t ts)) (are_distinct ts) e) j (omega arith) (sym same)
distinct-at (t ∷ ts) e (suc i) (suc j) low within same = distinct-at ts (and-right (not (is_one_of t ts)) (are_distinct ts) e) i j (omega arith) (omega arith) same

at-most : (n : ℕ) → not (nat_lt 4 n) ≡ true → n ≤ 4
at-most n e = grind (arith, nat_tests)

module _ (names : List (List ℕ)) (dimensions : are_dimensions names ≡ true) where
  -- the slots of dimensions are at most four
  few-slots : length (dimension_slots names) ≤ 4
  few-slots =
      let few : length names ≤ 4 = at-most (length names) (and-left (not (nat_lt MOST_DIMENSIONS (length names))) (are_distinct (map lower_case names)) dimensions) in
      subst (λ (n : ℕ). n ≤ 4) (sym (length-map names dimension_slot)) few

  -- and they differ
  slots-differ : All IsUtf8 names → AllPairs (λ (s t : Slot). s ≢ t) (dimension_slots names)
  slots-differ texts i j d low within = λ same.
      let inside : j < length names = subst (λ (n : ℕ). j < n) (length-map names dimension_slot) within in
      let before : i < length names = omega arith in
      let a : List ℕ = get_or names i [] in
      let b : List ℕ = get_or names j [] in
      let one : get_or (dimension_slots names) i d ≡ dimension_slot a = get_or-map dimension_slot names i [] d before in
      let other : get_or (dimension_slots names) j d ≡ dimension_slot b = get_or-map dimension_slot names j [] d inside in
      let equal : lower_case a ≡ lower_case b = same-slot a b (texts i [] before) (texts j [] inside) (dimension_slot a) (dimension_slot b) (sym one ∙ same ∙ other) (named a) (named b) in
      let low_one : get_or (map lower_case names) i [] ≡ lower_case a = get_or-map lower_case names i [] [] before in
      let low_other : get_or (map lower_case names) j [] ≡ lower_case b = get_or-map lower_case names j [] [] inside in
      distinct-at (map lower_case names) (and-right (not (nat_lt MOST_DIMENSIONS (length names))) (are_distinct (map lower_case names)) dimensions) i j low (subst (λ (n : ℕ). j < n) (sym (length-map names lower_case)) inside) (low_one ∙ equal ∙ sym low_other)

  -- so a summary by known ones may be asked for
  pub names-askable : (schema : Schema) → SchemaIsSound schema → NameSlots schema names → All IsUtf8 names → AreAskable schema (dimension_slots names)
  names-askable schema sound known texts = record {
    sound = sound;
    count = (let few = few-slots in omega (arith, few));
    differ = slots-differ texts;
    known = known-slots schema names known;
  }
