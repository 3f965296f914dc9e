-- The keys of a request as they are written are read as those keys.
use Rattle.std.proofs.Common.{◌≡◌, ◌≢◌, ℕ, List, [], ◌∷◌, Bool, true, false, not, ◌&&◌, ◌||◌, fold, Option, Some, None, Ordering, Less, Equal, Greater, refl, ap, sym, ◌∙◌, subst, nat_cmp}
use Rattle.std.specs.Prelude.{MatchOption}
use Rattle.std.specs.Cmp.Lexicographic.{slice_cmp}
use Rattle.std.specs.List.{list_any, AllByRecursion}
use Rattle.std.specs.List.Sorted.{IsStrictlySortedBy}
use Rattle.std.specs.Map.{keys_of}
use Rattle.std.specs.Ordering.{match_ordering}
use Rattle.std.specs.Str.{encode_utf8_all}
use Rattle.std.proofs.lemmas.Cmp.{nat_list_cmp_total, tied_itself}
use Rattle.serde_json.specs.Data.{Data, Members, no_members, member, put}
use Rattle.text_table.specs.Table.{Entries, item_at, with_item}
use Rattle.wildcard_lang.specs.Text.{IsText, folded_text}
use Rattle.json_shapes.specs.Checks.{first_fault}
use Rattle.json_shapes.specs.Json.{pairs_of}
use Rattle.json_shapes.specs.Shapes.{are_strings}
use Rattle.json_shapes.specs.Spelled.{EachMember}
use Rattle.json_shapes.proofs.Laws.{each-put, first_fault-rest}
use Rattle.policy_model.specs.declared.schema.KeyRule.{KeyRule}
use Rattle.policy_model.specs.declared.value.Value.{Value}
use Rattle.policy_model.specs.Keys.{IsFolded}
use Rattle.policy_model.specs.Requests.{PermitsValues}
use Rattle.request_schema.specs.BuiltIn.{folded_name, is_key}
use Rattle.request_schema.specs.SchemaRules.{same_key}
use Rattle.request_json.specs.RequestKeys.{checks_by_rule, context_checks, context_from, rule_at, with_key, with_values, values_read}
use Rattle.request_json.specs.RequestShapes.{are_apart, have_values, names_of}
use Rattle.request_json.specs.RequestTexts.{values_data}
use Rattle.request_schema.proofs.Entries.{equal-keys, is_key-is}
use Rattle.request_json.proofs.KeysRead.{Keys}
use Rattle.request_json.proofs.Permitting.{and-of}
use Rattle.request_json.proofs.Swapping.{swap}
use Rattle.request_json.proofs.WrittenValues.{chars-encoded, key-passes, strings-of, values-again}

abbrev cmp : List ℕ → List ℕ → Ordering
cmp = slice_cmp nat_cmp

-- ---- names that are different keys

-- no member is this key
abbrev Lacks : List ℕ → Members → Type 0
Lacks k ms = EachMember (λ l d. folded_name l ≢ k) ms

-- no two members are one key
abbrev AreDistinct : Members → Type 0
AreDistinct no_members = Unit {0}
AreDistinct (member l d ms) = Lacks (folded_name l) ms × AreDistinct ms

distinct-at : (o : Ordering) (n l : List ℕ) (d e : Data) (ms : Members) → cmp n l ≡ o → Lacks (folded_name n) (member l e ms) → AreDistinct (member l e ms) → AreDistinct (put n d ms) → AreDistinct (match_ordering o (member n d (member l e ms)) (member l d ms) (member l e (put n d ms)))
distinct-at Less n l d e ms is lacks apart later = (lacks, apart)
distinct-at Equal n l d e ms is lacks apart later = apart
distinct-at Greater n l d e ms is lacks apart later = (each-put (λ m c. folded_name m ≢ folded_name l) n d ms (λ same. lacks.0 (sym same)) apart.0, later)

distinct-put : (n : List ℕ) (d : Data) (ms : Members) → Lacks (folded_name n) ms → AreDistinct ms → AreDistinct (put n d ms)
distinct-put n d no_members lacks apart = (tt, tt)
distinct-put n d (member l e ms) lacks apart = distinct-at (cmp n l) n l d e ms refl lacks apart (distinct-put n d ms lacks.1 apart.1)

-- ---- distinct members are apart

other-key : (a b : List ℕ) (r : Bool) → is_key a b ≡ r → a ≢ b → r ≡ false
other-key a b true is apart = absurd (apart (is_key-is a b is))
other-key a b false is apart = refl

not-so : (b rest : Bool) → b ≡ false → rest ≡ true → (not b && rest) ≡ true
not-so true rest e r = absurd (cc)
not-so false rest e r = r

neither-so : (a b : Bool) → a ≡ false → b ≡ false → (a || b) ≡ false
neither-so true b e f = e
neither-so false b e f = f

-- no member is one of these names
abbrev AreNew : List (List ℕ) → Members → Type 0
AreNew before ms = EachMember (λ l d. list_any (same_key l) before ≡ false) ms

new-behind : (before : List (List ℕ)) (name : List ℕ) (ms : Members) → Lacks (folded_name name) ms → AreNew before ms → AreNew (name ∷ before) ms
new-behind before name no_members lacks new = tt
new-behind before name (member l d ms) lacks new = (neither-so (same_key l name) (list_any (same_key l) before) (other-key (folded_name l) (folded_name name) _ refl lacks.0) new.0, new-behind before name ms lacks.1 new.1)

apart-behind : (before : List (List ℕ)) (ms : Members) → AreDistinct ms → AreNew before ms → are_apart before (names_of (pairs_of ms)) ≡ true
apart-behind before no_members distinct new = refl
apart-behind before (member l d ms) distinct new = not-so (list_any (same_key l) before) (are_apart (l ∷ before) (names_of (pairs_of ms))) new.0 (apart-behind (l ∷ before) ms distinct.1 (new-behind before l ms distinct.0 new.1))

all-new : (ms : Members) → AreNew [] ms
all-new no_members = tt
all-new (member l d ms) = (refl, all-new ms)

-- ---- members that are well formed under the rules

-- the values are strings, and a rule permits what they stand for
record IsGood (keys : Entries KeyRule) (l : List ℕ) (d : Data) : Type 0 where
  strings : are_strings d ≡ true
  passes : first_fault (checks_by_rule (rule_at keys l) (l, d)) ≡ None

good-values : (keys : Entries KeyRule) (ms : Members) → EachMember (IsGood keys) ms → have_values (pairs_of ms) ≡ true
good-values keys no_members good = refl
good-values keys (member l d ms) good = and-of (are_strings d) (have_values (pairs_of ms)) good.0.strings (good-values keys ms good.1)

good-checks : (keys : Entries KeyRule) (ms : Members) → EachMember (IsGood keys) ms → first_fault (context_checks keys (pairs_of ms)) ≡ None
good-checks keys no_members good = refl
good-checks keys (member l d ms) good = first_fault-rest (checks_by_rule (rule_at keys l) (l, d)) (context_checks keys (pairs_of ms)) good.0.passes ∙ good-checks keys ms good.1

-- ---- a key that a request has

-- its name is folded, and a rule permits its values, of which there is one
pub record IsKept (keys : Entries KeyRule) (name : List ℕ) (vs : List Value) : Type 0 where
  pub text : IsText name
  pub folded : IsFolded name
  pub permitted : MatchOption (item_at name keys) ⊥ (λ rule. PermitsValues rule vs)
  pub nonempty : vs ≢ []

named-again : (name : List ℕ) → IsText name → IsFolded name → folded_name (encode_utf8_all name) ≡ name
named-again name text folded = ap folded_text (chars-encoded name text) ∙ folded

found-passes : (found : Option KeyRule) (name : List ℕ) (vs : List Value) → MatchOption found ⊥ (λ rule. PermitsValues rule vs) → first_fault (checks_by_rule found (name, values_data vs)) ≡ None
found-passes None name vs permits = absurd permits
found-passes (Some rule) name vs permits = key-passes rule name vs permits

some-put : (context : Keys) (name : List ℕ) (vs : List Value) → vs ≢ [] → with_values context name vs ≡ with_item context name vs
some-put context name [] some = absurd (some refl)
some-put context name (v ∷ vs) some = refl

found-put : (found : Option KeyRule) (context : Keys) (written name : List ℕ) (vs : List Value) → MatchOption found ⊥ (λ rule. PermitsValues rule vs) → folded_name written ≡ name → vs ≢ [] → with_key found context (written, values_data vs) ≡ with_item context name vs
found-put None context written name vs permits named some = absurd permits
found-put (Some rule) context written name vs permits named some =
    ap (λ (n : List ℕ). with_values context n (values_read rule (values_data vs))) named ∙ ap (with_values context name) (values-again rule vs permits) ∙ some-put context name vs some

module _ (keys : Entries KeyRule) (name : List ℕ) (vs : List Value) (kept : IsKept keys name vs) where
  written-name : folded_name (encode_utf8_all name) ≡ name
  written-name = named-again name kept.text kept.folded

  by-rule : MatchOption (rule_at keys (encode_utf8_all name)) ⊥ (λ rule. PermitsValues rule vs)
  by-rule = subst (λ (n : List ℕ). MatchOption (item_at n keys) ⊥ (λ rule. PermitsValues rule vs)) (sym written-name) kept.permitted

  kept-good : IsGood keys (encode_utf8_all name) (values_data vs)
  kept-good = record { strings = strings-of vs; passes = found-passes (rule_at keys (encode_utf8_all name)) (encode_utf8_all name) vs by-rule }

  kept-put : (context : Keys) → with_key (rule_at keys (encode_utf8_all name)) context (encode_utf8_all name, values_data vs) ≡ with_item context name vs
  kept-put context = found-put (rule_at keys (encode_utf8_all name)) context (encode_utf8_all name) name vs by-rule written-name kept.nonempty

-- ---- a key that is put among others

values-swap : (context : Keys) (name : List ℕ) (vs : List Value) (other : List ℕ) (ws : List Value) → name ≢ other → with_item (with_values context other ws) name vs ≡ with_values (with_item context name vs) other ws
values-swap context name vs other [] apart = refl
values-swap context name vs other (w ∷ ws) apart = swap name other vs (w ∷ ws) context apart

key-swap : (found : Option KeyRule) (context : Keys) (name : List ℕ) (vs : List Value) (l : List ℕ) (e : Data) → folded_name l ≢ name → with_item (with_key found context (l, e)) name vs ≡ with_key found (with_item context name vs) (l, e)
key-swap None context name vs l e apart = refl
key-swap (Some rule) context name vs l e apart = values-swap context name vs (folded_name l) (values_read rule e) (λ same. apart (sym same))

module _ (keys : Entries KeyRule) (name : List ℕ) (vs : List Value) (kept : IsKept keys name vs) where
  put-at : (o : Ordering) (l : List ℕ) (e : Data) (ms : Members) (context : Keys) → cmp (encode_utf8_all name) l ≡ o → folded_name l ≢ name →
      ((c : Keys) → context_from keys c (pairs_of (put (encode_utf8_all name) (values_data vs) ms)) ≡ context_from keys (with_item c name vs) (pairs_of ms)) →
      context_from keys context (pairs_of (match_ordering o (member (encode_utf8_all name) (values_data vs) (member l e ms)) (member l (values_data vs) ms) (member l e (put (encode_utf8_all name) (values_data vs) ms)))) ≡ context_from keys (with_item context name vs) (pairs_of (member l e ms))
  put-at Less l e ms context is apart later = ap (λ (c : Keys). context_from keys c (pairs_of (member l e ms))) (kept-put keys name vs kept context)
  put-at Equal l e ms context is apart later = absurd (apart (ap folded_name (sym (equal-keys (encode_utf8_all name) l is)) ∙ written-name keys name vs kept))
  put-at Greater l e ms context is apart later =
      later (with_key (rule_at keys l) context (l, e)) ∙ ap (λ (c : Keys). context_from keys c (pairs_of ms)) (key-swap (rule_at keys l) context name vs l e apart)

  put-read : (ms : Members) (context : Keys) → Lacks name ms → context_from keys context (pairs_of (put (encode_utf8_all name) (values_data vs) ms)) ≡ context_from keys (with_item context name vs) (pairs_of ms)
  put-read no_members context lacks = kept-put keys name vs kept context
  put-read (member l e ms) context lacks = put-at (cmp (encode_utf8_all name) l) l e ms context refl lacks.0 (λ c. put-read ms c lacks.1)

-- ---- all keys of a request

abbrev pub AreKept : Entries KeyRule → Keys → Type 0
AreKept keys [] = Unit {0}
AreKept keys (e ∷ es) = IsKept keys e.0 e.1 × AreKept keys es

-- the members with those of more keys
abbrev with_members : Members → Keys → Members
with_members ms es = fold (λ ms e. put (encode_utf8_all e.0) (values_data e.1) ms) ms es

abbrev AreLacking : Keys → Members → Type 0
AreLacking [] ms = Unit {0}
AreLacking (e ∷ es) ms = Lacks e.0 ms × AreLacking es ms

first-put : (e : List ℕ × List Value) (es : Keys) → AllByRecursion (λ k. cmp e.0 k ≡ Less) (keys_of es) → with_item es e.0 e.1 ≡ e ∷ es
first-put e [] below = refl
first-put e (f ∷ es) below = rw below.0 refl

below-apart : (k j : List ℕ) → cmp k j ≡ Less → k ≢ j
below-apart k j less same = let tied : cmp k j ≡ Equal = subst (λ (x : List ℕ). cmp k x ≡ Equal) same (tied_itself nat_list_cmp_total k) in absurd (cc)

lacking-put : (keys : Entries KeyRule) (e : List ℕ × List Value) (es : Keys) (ms : Members) → IsKept keys e.0 e.1 → AllByRecursion (λ k. cmp e.0 k ≡ Less) (keys_of es) → AreLacking es ms → AreLacking es (put (encode_utf8_all e.0) (values_data e.1) ms)
lacking-put keys e [] ms kept below lacking = tt
lacking-put keys e (f ∷ es) ms kept below lacking = (
  each-put (λ l d. folded_name l ≢ f.0) (encode_utf8_all e.0) (values_data e.1) ms (λ same. below-apart e.0 f.0 below.0 (sym (written-name keys e.0 e.1 kept) ∙ same)) lacking.0,
  lacking-put keys e es ms kept below.1 lacking.1,
)

module _ (keys : Entries KeyRule) where
  -- they are read as they are
  all-read : (es : Keys) (ms : Members) → IsStrictlySortedBy (slice_cmp nat_cmp) (keys_of es) → AreKept keys es → AreLacking es ms → context_from keys [] (pairs_of (with_members ms es)) ≡ context_from keys es (pairs_of ms)
  unfolding IsStrictlySortedBy
  all-read [] ms sorted kept lacking = refl
  all-read (e ∷ es) ms sorted kept lacking =
      all-read es (put (encode_utf8_all e.0) (values_data e.1) ms) sorted.1 kept.1 (lacking-put keys e es ms kept.0 sorted.0 lacking.1)
      ∙ put-read keys e.0 e.1 kept.0 ms es lacking.0 ∙ ap (λ (c : Keys). context_from keys c (pairs_of ms)) (first-put e es sorted.0)

  -- and are well formed
  all-good : (es : Keys) (ms : Members) → AreKept keys es → EachMember (IsGood keys) ms → EachMember (IsGood keys) (with_members ms es)
  all-good [] ms kept good = good
  all-good (e ∷ es) ms kept good = all-good es (put (encode_utf8_all e.0) (values_data e.1) ms) kept.1 (each-put (IsGood keys) (encode_utf8_all e.0) (values_data e.1) ms (kept-good keys e.0 e.1 kept.0) good)

  all-distinct : (es : Keys) (ms : Members) → IsStrictlySortedBy (slice_cmp nat_cmp) (keys_of es) → AreKept keys es → AreLacking es ms → AreDistinct ms → AreDistinct (with_members ms es)
  unfolding IsStrictlySortedBy
  all-distinct [] ms sorted kept lacking distinct = distinct
  all-distinct (e ∷ es) ms sorted kept lacking distinct =
      let lacks = subst (λ (n : List ℕ). Lacks n ms) (sym (written-name keys e.0 e.1 kept.0)) lacking.0 in
      all-distinct es (put (encode_utf8_all e.0) (values_data e.1) ms) sorted.1 kept.1 (lacking-put keys e es ms kept.0 sorted.0 lacking.1) (distinct-put (encode_utf8_all e.0) (values_data e.1) ms lacks distinct)

none-lacking : (es : Keys) → AreLacking es no_members
none-lacking [] = tt
none-lacking (e ∷ es) = (tt, none-lacking es)

module _ (keys : Entries KeyRule) (es : Keys) (sorted : IsStrictlySortedBy (slice_cmp nat_cmp) (keys_of es)) (kept : AreKept keys es) where
  pub keys-again : context_from keys [] (pairs_of (with_members no_members es)) ≡ es
  keys-again = all-read keys es no_members sorted kept (none-lacking es)

  pub keys-pass : first_fault (context_checks keys (pairs_of (with_members no_members es))) ≡ None
  keys-pass = good-checks keys (with_members no_members es) (all-good keys es no_members kept tt)

  pub keys-strings : have_values (pairs_of (with_members no_members es)) ≡ true
  keys-strings = good-values keys (with_members no_members es) (all-good keys es no_members kept tt)

  pub keys-apart : are_apart [] (names_of (pairs_of (with_members no_members es))) ≡ true
  keys-apart = let ms = with_members no_members es in apart-behind [] ms (all-distinct keys es no_members sorted kept (none-lacking es) tt) (all-new ms)
