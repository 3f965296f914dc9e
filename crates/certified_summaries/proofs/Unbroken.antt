-- No line feed stands in compact texts of JSON.
use Rattle.std.proofs.Common.{◌≡◌, ◌+◌, ◌||◌, ◌/◌, ◌%◌, ℕ, Bool, true, false, cond, List, [], ◌∷◌, ◌++◌, map, fold, eqb, refl, ap, arith, inl, inr}
use Rattle.std.specs.Prelude.{nat_lt, ⊤}
use Rattle.std.specs.Char.{digit_char}
use Rattle.std.specs.Cmp.Lexicographic.{slice_cmp}
use Rattle.std.specs.Ordering.{match_ordering, nat_cmp}
use Rattle.std.specs.Str.{encode_utf8_all}
use Rattle.std.specs.declared.cmp.Ordering.{Ordering}
use Rattle.std.specs.declared.cmp.Ordering.TheVariants as order
use Rattle.std.proofs.lemmas.Bool.{cases_Bool, eqb-true, ne_eqb}
use Rattle.std.proofs.lemmas.List.Elements.{All-nil, All-cons, All-append}
use Rattle.json.specs.Print.{escape, escape_byte, escape_letter, quoted}
use Rattle.serde_json.specs.Data.{Data, Items, Members, array, boolean, item, member, no_items, no_members, null, number, object, put, string}
use Rattle.serde_json.specs.View.{items_of}
use Rattle.serde_json.specs.Written.{comma_if, compact_text, items_text, members_text}
use Rattle.text_table.specs.Table.{Entries}
use Rattle.policy_model.specs.declared.request.Request.{Request}
use Rattle.policy_model.specs.declared.value.Value.{Value}
use Rattle.strata.specs.declared.stratum.Stratum.{Stratum}
use Rattle.findings.specs.Texts.{finding_data, finding_text, predicate_texts}
use Rattle.request_json.specs.RequestTexts.{request_data, request_text, values_data}
use Rattle.proof_text.specs.Laws.{IsUnbroken}

abbrev Other : ℕ → Type 0
Other b = eqb b 10 ≡ false

one : (b : ℕ) → Other b → IsUnbroken (b ∷ [])
one b other = All-cons Other b [] other (All-nil Other)

pub join : (s t : List ℕ) → IsUnbroken s → IsUnbroken t → IsUnbroken (s ++ t)
join s t one other = All-append Other s t one other

-- ---- strings

last-letter : (g : Bool) → Other (cond g 116 0)
last-letter true = refl
last-letter false = refl

letter-cases : (a b c d e f : Bool) (x : ℕ) → eqb x 34 ≡ a → eqb x 92 ≡ b → eqb x 8 ≡ c → eqb x 12 ≡ d → eqb x 10 ≡ e → eqb x 13 ≡ f →
    Other (cond (a || b) x (cond c 98 (cond d 102 (cond e 110 (cond f 114 (cond (eqb x 9) 116 0))))))
letter-cases true b c d e f x ea eb ec ed ee ef = let same = eqb-true x 34 ea in ap (λ (y : ℕ). eqb y 10) same
letter-cases false true c d e f x ea eb ec ed ee ef = let same = eqb-true x 92 eb in ap (λ (y : ℕ). eqb y 10) same
letter-cases false false true d e f x ea eb ec ed ee ef = refl
letter-cases false false false true e f x ea eb ec ed ee ef = refl
letter-cases false false false false true f x ea eb ec ed ee ef = refl
letter-cases false false false false false true x ea eb ec ed ee ef = refl
letter-cases false false false false false false x ea eb ec ed ee ef = last-letter (eqb x 9)

letter-other : (x : ℕ) → Other (escape_letter x)
letter-other x = letter-cases (eqb x 34) (eqb x 92) (eqb x 8) (eqb x 12) (eqb x 10) (eqb x 13) x refl refl refl refl refl refl

-- the line feed has a letter
letter-of_feed : (x : ℕ) → nat_lt 0 (escape_letter x) ≡ false → Other x
letter-of_feed x none = elim (cases_Bool (eqb x 10)) [
  | inl feed ↦ (let same : x ≡ 10 = eqb-true x 10 feed in
      let some : nat_lt 0 (escape_letter x) ≡ true = ap (λ (y : ℕ). nat_lt 0 (escape_letter y)) same in
      absurd (cc))
  | inr other ↦ other
]

digit-large : (small : Bool) (n : ℕ) → cond small (48 + n) (87 + n) ≡ 10 → ⊥
digit-large true n e = absurd (omega (arith, e))
digit-large false n e = absurd (omega (arith, e))

digit-other : (n : ℕ) → Other (digit_char n)
digit-other n = ne_eqb (digit_char n) 10 (λ e. digit-large (nat_lt n 10) n e)

byte-cases : (a b : Bool) (x : ℕ) → nat_lt 0 (escape_letter x) ≡ a → IsUnbroken (cond a (92 ∷ escape_letter x ∷ []) (cond b (92 ∷ 117 ∷ 48 ∷ 48 ∷ digit_char (x / 16) ∷ digit_char (x % 16) ∷ []) (x ∷ [])))
byte-cases true b x e = join (92 ∷ []) (escape_letter x ∷ []) (one 92 refl) (one (escape_letter x) (letter-other x))
byte-cases false true x e = join (92 ∷ 117 ∷ 48 ∷ 48 ∷ []) (digit_char (x / 16) ∷ digit_char (x % 16) ∷ []) (join (92 ∷ 117 ∷ []) (48 ∷ 48 ∷ []) (join (92 ∷ []) (117 ∷ []) (one 92 refl) (one 117 refl)) (join (48 ∷ []) (48 ∷ []) (one 48 refl) (one 48 refl))) (join (digit_char (x / 16) ∷ []) (digit_char (x % 16) ∷ []) (one (digit_char (x / 16)) (digit-other (x / 16))) (one (digit_char (x % 16)) (digit-other (x % 16))))
byte-cases false false x e = one x (letter-of_feed x e)

byte-unbroken : (x : ℕ) → IsUnbroken (escape_byte x)
unfolding escape_byte
byte-unbroken x = byte-cases (nat_lt 0 (escape_letter x)) (nat_lt x 32) x refl

escape-unbroken : (s : List ℕ) → IsUnbroken (escape s)
escape-unbroken [] = All-nil Other
escape-unbroken (b ∷ s) = join (escape_byte b) (escape s) (byte-unbroken b) (escape-unbroken s)

quoted-unbroken : (s : List ℕ) → IsUnbroken (quoted s)
quoted-unbroken s = join (34 ∷ []) (escape s ++ 34 ∷ []) (one 34 refl) (join (escape s) (34 ∷ []) (escape-unbroken s) (one 34 refl))

-- ---- values without numbers

abbrev mutual
  IsWorded : Data → Type 0
  IsWorded null = ⊥
  IsWorded (boolean b) = ⊥
  IsWorded (number n) = ⊥
  IsWorded (string s) = ⊤
  IsWorded (array ds) = AreWorded ds
  IsWorded (object ms) = HaveWorded ms

  AreWorded : Items → Type 0
  AreWorded no_items = ⊤
  AreWorded (item d ds) = IsWorded d × AreWorded ds

  HaveWorded : Members → Type 0
  HaveWorded no_members = ⊤
  HaveWorded (member name d ms) = IsWorded d × HaveWorded ms

comma-unbroken : (later : Bool) → IsUnbroken (comma_if later)
comma-unbroken true = one 44 refl
comma-unbroken false = All-nil Other

mutual
  data-unbroken : (d : Data) → IsWorded d → IsUnbroken (compact_text d)
  data-unbroken null is = absurd is
  data-unbroken (boolean b) is = absurd is
  data-unbroken (number n) is = absurd is
  data-unbroken (string s) is = quoted-unbroken s
  data-unbroken (array ds) is = join (91 ∷ []) (items_text false ds) (one 91 refl) (items-unbroken false ds is)
  data-unbroken (object ms) is = join (123 ∷ []) (members_text false ms) (one 123 refl) (members-unbroken false ms is)

  items-unbroken : (later : Bool) (ds : Items) → AreWorded ds → IsUnbroken (items_text later ds)
  items-unbroken later no_items is = one 93 refl
  items-unbroken later (item d ds) is =
      join (comma_if later) (compact_text d ++ items_text true ds) (comma-unbroken later)
      (join (compact_text d) (items_text true ds) (data-unbroken d is.0) (items-unbroken true ds is.1))

  members-unbroken : (later : Bool) (ms : Members) → HaveWorded ms → IsUnbroken (members_text later ms)
  members-unbroken later no_members is = one 125 refl
  members-unbroken later (member k d ms) is =
      join (comma_if later) (quoted k ++ 58 ∷ (compact_text d ++ members_text true ms)) (comma-unbroken later)
      (join (quoted k) (58 ∷ (compact_text d ++ members_text true ms)) (quoted-unbroken k)
      (join (58 ∷ []) (compact_text d ++ members_text true ms) (one 58 refl)
      (join (compact_text d) (members_text true ms) (data-unbroken d is.0) (members-unbroken true ms is.1))))

-- ---- findings

strings-worded : (ts : List (List ℕ)) → AreWorded (items_of (map string ts))
strings-worded [] = tt
strings-worded (t ∷ ts) = (tt, strings-worded ts)

pub finding-unbroken : (ds : List Stratum) (f : List ℕ) → IsUnbroken (finding_text ds f)
finding-unbroken ds f = data-unbroken (finding_data ds f) (strings-worded (predicate_texts ds f))

-- ---- requests

values-worded : (vs : List Value) → IsWorded (values_data vs)
values-worded [] = tt
values-worded (v ∷ vs) = (tt, values-worded vs)

put-cases : (o : Ordering) (k l : List ℕ) (d e : Data) (ms ns : Members) → IsWorded d → IsWorded e → HaveWorded ms → HaveWorded ns → HaveWorded (match_ordering o (member k d (member l e ms)) (member l d ms) (member l e ns))
put-cases order.Less k l d e ms ns first other rest more = (first, (other, rest))
put-cases order.Equal k l d e ms ns first other rest more = (first, rest)
put-cases order.Greater k l d e ms ns first other rest more = (other, more)

put-worded : (k : List ℕ) (d : Data) (ms : Members) → IsWorded d → HaveWorded ms → HaveWorded (put k d ms)
put-worded k d no_members first rest = (first, tt)
put-worded k d (member l e ms) first rest = put-cases (slice_cmp nat_cmp k l) k l d e ms (put k d ms) first rest.0 rest.1 (put-worded k d ms first rest.1)

context-worded : (entries : Entries (List Value)) (ms : Members) → HaveWorded ms → HaveWorded (fold (λ ns entry. put (encode_utf8_all entry.0) (values_data entry.1) ns) ms entries)
context-worded [] ms had = had
context-worded (e ∷ entries) ms had = context-worded entries (put (encode_utf8_all e.0) (values_data e.1) ms) (put-worded (encode_utf8_all e.0) (values_data e.1) ms (values-worded e.1) had)

request-worded : (r : Request) → IsWorded (request_data r)
request-worded r = (tt, (context-worded r.context no_members tt, ((tt, tt), (tt, tt))))

pub request-unbroken : (r : Request) → IsUnbroken (request_text r)
request-unbroken r = data-unbroken (request_data r) (request-worded r)
