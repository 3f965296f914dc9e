-- The text of a value is read as that value.
use Rattle.std.proofs.Common.{◌≡◌, ◌<◌, ◌≤◌, ◌⊎◌, ℕ, List, [], ◌∷◌, Bool, true, false, map, length, All, Some, None, option_map, chars, refl, ap, sym, ◌∙◌, subst, inl, inr, arith}
use Rattle.std.specs.Prelude.{slice_index}
use Rattle.std.specs.Result.{result_ok}
use Rattle.std.specs.Str.{encode_utf8_all}
use Rattle.std.proofs.lemmas.Bool.{cases_lt}
use Rattle.std.proofs.Math.ListN.{get_or-eq_default}
use Rattle.std.proofs.lemmas.List.Elements.{All-head, All-tail}
use Rattle.std.proofs.lemmas.Str.{chars_from_encodes}
use Rattle.base64.specs.Engines.{standard}
use Rattle.base64.specs.GeneralPurpose.{decoded_of, encode_of}
use Rattle.base64.proofs.EngineFacts.{decode_of-encode_of}
use Rattle.json_shapes.specs.Checks.{first_fault}
use Rattle.json_shapes.specs.Shapes.{are_strings}
use Rattle.wildcard_lang.specs.Text.{IsText}
use Rattle.intervals.proofs.Laws.{read_again}
use Rattle.cidr_bits.proofs.Laws.{address_read_again}
use Rattle.policy_model.specs.declared.schema.KeyRule.{KeyRule}
use Rattle.policy_model.specs.declared.value.Kind.{Kind}
use Rattle.policy_model.specs.declared.value.Kind.TheVariants as kind
use Rattle.policy_model.specs.declared.value.Value.{Value}
use Rattle.policy_model.specs.declared.value.Value.TheVariants as value
use Rattle.policy_model.specs.Requests.{IsOfKind, PermitsValues}
use Rattle.request_schema.specs.SchemaRules.{are_of_kind, values_of_kind}
use Rattle.request_schema.specs.ValueTexts.{value_written}
use Rattle.request_json.specs.RequestChecks.{request_check}
use Rattle.request_json.specs.RequestKeys.{are_permitted, request_key_checks, texts_at, values_read}
use Rattle.request_json.specs.RequestTexts.{value_text, values_data}
use Rattle.request_json.specs.declared.fault.RequestCode.{RequestCode}
use Rattle.request_schema.proofs.Listed.{written-is, written-passes}
use Rattle.request_json.proofs.Permitting.{permitted}

pub chars-encoded : (t : List ℕ) → IsText t → chars (encode_utf8_all t) ≡ t
chars-encoded t text = sym (chars_from_encodes t (encode_utf8_all t) (t, (text, refl)) refl)

-- ---- bytes

byte-at : (bs : List ℕ) (i : ℕ) → All (λ b. b < 256) bs → (i < length bs) ⊎ (length bs ≤ i) → slice_index bs i < 256
byte-at bs i all (inl within) = all i 0 within
byte-at bs i all (inr past) = subst (λ (b : ℕ). b < 256) (sym (get_or-eq_default bs 0 past)) (omega arith)

decoded-encoded : (bs : List ℕ) → All (λ b. b < 256) bs → decoded_of standard (encode_of standard bs) ≡ Some bs
unfolding decoded_of
decoded-encoded bs all = ap result_ok (decode_of-encode_of standard bs refl (λ i. byte-at bs i all (cases_lt i (length bs))))

-- ---- one value

truth-again : (b : Bool) → value_written kind.Truth (value_text (value.Truth b)) ≡ Some (value.Truth b)
truth-again true = refl
truth-again false = refl

pub written-again : (k : Kind) (v : Value) → IsOfKind k v → value_written k (value_text v) ≡ Some v
written-again kind.Text (value.Word t) is = ap (λ (u : List ℕ). Some (value.Word u)) (chars-encoded t is)
written-again kind.Text (value.Truth b) is = absurd is
written-again kind.Text (value.Number n) is = absurd is
written-again kind.Text (value.Address a) is = absurd is
written-again kind.Text (value.Bytes bs) is = absurd is
written-again kind.Truth (value.Word t) is = absurd is
written-again kind.Truth (value.Truth b) is = truth-again b
written-again kind.Truth (value.Number n) is = absurd is
written-again kind.Truth (value.Address a) is = absurd is
written-again kind.Truth (value.Bytes bs) is = absurd is
written-again kind.Number (value.Word t) is = absurd is
written-again kind.Number (value.Truth b) is = absurd is
written-again kind.Number (value.Number n) is = ap (option_map value.Number) (read_again n is)
written-again kind.Number (value.Address a) is = absurd is
written-again kind.Number (value.Bytes bs) is = absurd is
written-again kind.Address (value.Word t) is = absurd is
written-again kind.Address (value.Truth b) is = absurd is
written-again kind.Address (value.Number n) is = absurd is
written-again kind.Address (value.Address a) is = ap (option_map value.Address) (address_read_again a is)
written-again kind.Address (value.Bytes bs) is = absurd is
written-again kind.Bytes (value.Word t) is = absurd is
written-again kind.Bytes (value.Truth b) is = absurd is
written-again kind.Bytes (value.Number n) is = absurd is
written-again kind.Bytes (value.Address a) is = absurd is
written-again kind.Bytes (value.Bytes bs) is = ap (option_map value.Bytes) (decoded-encoded bs is)

-- ---- the values of a key

list-again : (k : Kind) (vs : List Value) → All (IsOfKind k) vs → (are_of_kind k (map value_text vs) ≡ true) × (values_of_kind k (map value_text vs) ≡ vs)
list-again k [] kinds = (refl, refl)
list-again k (v ∷ vs) kinds =
    let own = written-again k v (All-head (IsOfKind k) v vs kinds) in
    let rest = list-again k vs (All-tail (IsOfKind k) v vs kinds) in (
      written-passes k (value_text v) (map value_text vs) v own ∙ rest.0,
      ap (λ (w : Value). w ∷ values_of_kind k (map value_text vs)) (written-is k (value_text v) v own) ∙ ap (λ (ws : List Value). v ∷ ws) rest.1,
    )

texts-of : (vs : List Value) → texts_at (values_data vs) ≡ map value_text vs
texts-of [] = refl
texts-of (v ∷ vs) = ap (λ (ts : List (List ℕ)). value_text v ∷ ts) (texts-of vs)

pub strings-of : (vs : List Value) → are_strings (values_data vs) ≡ true
strings-of [] = refl
strings-of (v ∷ vs) = strings-of vs

pub kinds-of : (rule : KeyRule) (vs : List Value) → PermitsValues rule vs → All (IsOfKind rule.kind) vs
kinds-of rule vs permits = λ i d within. (permits.each i d within).kind

pub values-again : (rule : KeyRule) (vs : List Value) → PermitsValues rule vs → values_read rule (values_data vs) ≡ vs
values-again rule vs permits = ap (values_of_kind rule.kind) (texts-of vs) ∙ (list-again rule.kind vs (kinds-of rule vs permits)).1

both-pass : (p q : Bool) (a b : RequestCode) (name : List ℕ) → p ≡ true → q ≡ true → first_fault (request_check p a name ∷ request_check q b name ∷ []) ≡ None
both-pass true true a b name e f = refl
both-pass true false a b name e f = absurd (cc)
both-pass false q a b name e f = absurd (cc)

-- a key with values that its rule permits has no fault
pub key-passes : (rule : KeyRule) (name : List ℕ) (vs : List Value) → PermitsValues rule vs → first_fault (request_key_checks rule (name, values_data vs)) ≡ None
key-passes rule name vs permits =
    let kinds = kinds-of rule vs permits in
    let again = list-again rule.kind vs kinds in
    both-pass _ _ _ _ name
    (ap (are_of_kind rule.kind) (texts-of vs) ∙ again.0)
    (ap (λ (ts : List (List ℕ)). are_permitted rule (values_of_kind rule.kind ts)) (texts-of vs) ∙ ap (are_permitted rule) again.1 ∙ (permitted rule vs kinds).1 permits)
