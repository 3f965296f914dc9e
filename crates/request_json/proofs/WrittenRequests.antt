-- A valid request as JSON stands for that request.
use Rattle.std.proofs.Common.{◌≡◌, ◌≢◌, ℕ, List, [], ◌∷◌, Bool, true, false, not, ◌||◌, is_some, nat_le, length, All, Option, Some, None, Result, Ok, chars, codes, refl, ap, sym, ◌∙◌, arith}
use Rattle.std.specs.Prelude.{MatchOption, if◌then◌else◌}
use Rattle.std.specs.Map.{keys_of, values_of}
use Rattle.std.proofs.lemmas.Bool.{le-leb}
use Rattle.std.specs.Str.{encode_utf8_all}
use Rattle.std.proofs.lemmas.List.Elements.{All-nil, All-cons, All-head, All-tail}
use Rattle.serde_json.specs.Data.{object, member, no_members, string}
use Rattle.serde_json.specs.Find.{get}
use Rattle.text_table.specs.Table.{Entries, item_at}
use Rattle.wildcard_lang.specs.Text.{IsText}
use Rattle.wildcard_lang.specs.declared.piece.Piece.{Piece}
use Rattle.json_shapes.specs.Checks.{first_fault}
use Rattle.json_shapes.specs.Json.{pairs_of}
use Rattle.json_shapes.specs.Shapes.{where_there, is_object_of}
use Rattle.policy_model.specs.declared.principal.PrincipalKind.{PrincipalKind}
use Rattle.policy_model.specs.declared.principal.PrincipalKind.TheVariants.{Aws, Service, Federated, CanonicalUser}
use Rattle.policy_model.specs.declared.request.Request.{Request}
use Rattle.policy_model.specs.declared.schema.KeyRule.{KeyRule}
use Rattle.policy_model.specs.declared.schema.Schema.{Schema}
use Rattle.policy_model.specs.declared.schema.Shapes.{Shapes}
use Rattle.policy_model.specs.declared.value.Value.{Value}
use Rattle.policy_model.specs.Keys.{IsFolded}
use Rattle.policy_model.specs.Principals.{kind_word}
use Rattle.policy_model.specs.Requests.{EntryIsValid, IsThere, IsValid, IsWellKept, IsWord, PermitsValues, WordsAreValid, shape_of}
use Rattle.request_json.specs.RequestChecks.{request_check}
use Rattle.request_json.specs.RequestFiles.{context_of, is_word, request_checks, request_of, request_or, request_read, request_with, whole_checks, word_checks_of}
use Rattle.request_json.specs.RequestKeys.{context_checks, fits_shape, required_checks}
use Rattle.request_json.specs.RequestShapes.{are_apart, has_form, has_words, have_values, is_context, is_one_id, is_request, keys_of_request, kind_of_name, names_of, request_names}
use Rattle.request_json.specs.RequestTexts.{context_members, request_data}
use Rattle.request_json.specs.declared.fault.RequestCode.{RequestCode}
use Rattle.request_json.specs.declared.fault.RequestFault.{RequestFault}
use Rattle.request_json.proofs.KeysRead.{Keys}
use Rattle.request_json.proofs.Permitting.{and-of, fits-shape}
use Rattle.request_json.proofs.WrittenBytes.{value-utf8}
use Rattle.request_json.proofs.WrittenTexts.{AreUtf8, AreWritten}
use Rattle.request_json.proofs.WrittenKeys.{AreKept, keys-again, keys-apart, keys-pass, keys-strings}
use Rattle.request_json.proofs.WrittenValues.{chars-encoded}
use Rattle.json_shapes.proofs.Laws.{passed_three, passes_at}

-- ---- its keys

kept-keys : (keys : Entries KeyRule) (es : Keys) → All IsText (keys_of es) → All IsFolded (keys_of es) → All (λ vs. vs ≢ []) (values_of es) → All (EntryIsValid keys) es → AreKept keys es
kept-keys keys [] texts folded some valid = tt
kept-keys keys (e ∷ es) texts folded some valid = (
  record {
    text = All-head IsText e.0 (keys_of es) texts;
    folded = All-head IsFolded e.0 (keys_of es) folded;
    permitted = All-head (EntryIsValid keys) e es valid;
    nonempty = All-head (λ vs. vs ≢ []) e.1 (values_of es) some;
  },
  kept-keys keys es (All-tail IsText e.0 (keys_of es) texts) (All-tail IsFolded e.0 (keys_of es) folded) (All-tail (λ vs. vs ≢ []) e.1 (values_of es) some) (All-tail (EntryIsValid keys) e es valid),
)

by-kind : (found : Option KeyRule) (vs : List Value) → MatchOption found ⊥ (λ rule. PermitsValues rule vs) → AreUtf8 vs
by-kind None vs permits = absurd permits
by-kind (Some rule) vs permits = λ i d within. value-utf8 rule.kind _ (permits.each i d within).kind

kept-written : (keys : Entries KeyRule) (es : Keys) → AreKept keys es → All AreWritten es
kept-written keys [] kept = All-nil AreWritten
kept-written keys (e ∷ es) kept = All-cons AreWritten e es (record { name = kept.0.text; values = by-kind (item_at e.0 keys) e.1 kept.0.permitted }) (kept-written keys es kept.1)

-- its names and values are of UTF-8
pub keys-written : (schema : Schema) (r : Request) → IsWellKept r → IsValid schema r → All AreWritten r.context
keys-written schema r kept valid = kept-written schema.keys r.context (kept-keys schema.keys r.context kept.texts kept.once.folded kept.once.nonempty valid.keys.each)

-- ---- single checks

one-passes : (p : Bool) (code : RequestCode) (name : List ℕ) → p ≡ true → first_fault (request_check p code name ∷ []) ≡ None
one-passes true code name e = refl
one-passes false code name e = absurd (cc)

three-pass : (p q r : Bool) (a b c : RequestCode) (l m n : List ℕ) → p ≡ true → q ≡ true → r ≡ true → first_fault (request_check p a l ∷ request_check q b m ∷ request_check r c n ∷ []) ≡ None
three-pass true true true a b c l m n e f g = refl
three-pass true true false a b c l m n e f g = absurd (cc)
three-pass true false r a b c l m n e f g = absurd (cc)
three-pass false q r a b c l m n e f g = absurd (cc)

there-passes : (required : Bool) (found : Option (List Value)) → (required ≡ true → MatchOption found ⊥ (λ vs. vs ≢ [])) → (not required || is_some found) ≡ true
there-passes false found there = refl
there-passes true None there = absurd (there refl)
there-passes true (Some vs) there = refl

next-passes : (p : Bool) (fault : RequestFault) (rest : Option RequestFault) → p ≡ true → rest ≡ None → (if p then rest else Some fault) ≡ None
next-passes true fault rest e f = f
next-passes false fault rest e f = absurd (cc)

required-pass : (keys : Entries KeyRule) (context : Keys) → All (IsThere context) keys → first_fault (required_checks keys context) ≡ None
required-pass [] context all = refl
required-pass (e ∷ keys) context all =
    next-passes _ _ (first_fault (required_checks keys context)) (there-passes e.1.required (item_at e.0 context) (All-head (IsThere context) e keys all)) (required-pass keys context (All-tail (IsThere context) e keys all))

some-word : (t : List ℕ) → t ≢ [] → nat_le 1 (length t) ≡ true
some-word [] some = absurd (some refl)
some-word (c ∷ t) some = le-leb 1 (length (c ∷ t)) (omega arith)

word-passes : (shape : Option (List Piece)) (t : List ℕ) → IsWord shape t → is_word shape t ≡ true
word-passes shape t word = and-of (nat_le 1 (length t)) (fits_shape shape t) (some-word t word.nonempty) ((fits-shape shape t).1 word.fits)

words-pass : (shapes : Shapes) (r : Request) → WordsAreValid shapes r → first_fault (word_checks_of shapes r) ≡ None
words-pass shapes r valid =
    three-pass _ _ _ _ _ _ _ _ _ (word-passes (shape_of shapes r.kind) r.id valid.id) (word-passes shapes.action r.action valid.action) (word-passes shapes.resource r.resource valid.resource)

-- ---- its shape

one-id : (k : PrincipalKind) (s : List ℕ) → is_one_id (object (member (kind_word k) (string s) no_members)) ≡ true
one-id Aws s = refl
one-id Service s = refl
one-id Federated s = refl
one-id CanonicalUser s = refl

formed : (r : Request) → has_form (request_data r) ≡ true
formed r =
    and-of (is_object_of request_names (request_data r)) (has_words (request_data r)) refl (and-of (is_one_id (object (member (kind_word r.kind) (string (encode_utf8_all r.id)) no_members))) true (one-id r.kind (encode_utf8_all r.id)) refl)

shaped : (r : Request) → have_values (pairs_of (context_members r.context)) ≡ true → are_apart [] (names_of (pairs_of (context_members r.context))) ≡ true → is_request (request_data r) ≡ true
shaped r strings apart =
    and-of (has_form (request_data r)) (where_there is_context (get (codes "Context") (request_data r))) (formed r)
    (and-of (have_values (pairs_of (context_members r.context))) (are_apart [] (names_of (pairs_of (context_members r.context)))) strings apart)

-- ---- what it stands for

kind-again : (k : PrincipalKind) → kind_of_name (kind_word k) ≡ k
kind-again Aws = refl
kind-again Service = refl
kind-again Federated = refl
kind-again CanonicalUser = refl

request-again : (r : Request) → IsText r.id → IsText r.action → IsText r.resource → request_with (request_data r) r.context ≡ r
request-again r id action resource =
    let make = λ (k : PrincipalKind) (i a s : List ℕ). let made : Request = record { kind = k; id = i; action = a; resource = s; context = r.context } in made in
    let utf8 = λ (t : List ℕ). chars (encode_utf8_all t) in
    ap (λ (k : PrincipalKind). make k (utf8 r.id) (utf8 r.action) (utf8 r.resource)) (kind-again r.kind)
    ∙ ap (λ (i : List ℕ). make r.kind i (utf8 r.action) (utf8 r.resource)) (chars-encoded r.id id)
    ∙ ap (λ (a : List ℕ). make r.kind r.id a (utf8 r.resource)) (chars-encoded r.action action)
    ∙ ap (λ (s : List ℕ). make r.kind r.id r.action s) (chars-encoded r.resource resource)

pub data-again : (schema : Schema) (r : Request) → IsWellKept r → IsValid schema r → request_read schema (Some (request_data r)) ≡ Ok r
unfolding request_checks
data-again schema r kept valid =
    let d = request_data r in
    let keys = kept-keys schema.keys r.context kept.texts kept.once.folded kept.once.nonempty valid.keys.each in
    let context : context_of schema d ≡ r.context = keys-again schema.keys r.context kept.once.ordered keys in
    let stands : request_of schema d ≡ r = ap (request_with d) context ∙ request-again r valid.words.id.text valid.words.action.text valid.words.resource.text in
    let whole = one-passes (is_request d) _ _ (shaped r (keys-strings schema.keys r.context kept.once.ordered keys) (keys-apart schema.keys r.context kept.once.ordered keys)) in
    let given = keys-pass schema.keys r.context kept.once.ordered keys in
    let required = passes_at (λ (c : Keys). required_checks schema.keys c) r.context (context_of schema d) (sym context) (required-pass schema.keys r.context valid.keys.required) in
    let words = passes_at (λ (q : Request). word_checks_of schema.shapes q) r (request_of schema d) (sym stands) (words-pass schema.shapes r valid.words) in
    let passed : first_fault (request_checks schema d) ≡ None =
    passed_three (whole_checks d) (context_checks schema.keys (keys_of_request d)) (required_checks schema.keys (context_of schema d)) (word_checks_of schema.shapes (request_of schema d)) whole given required ∙ words in
    ap (request_or (request_of schema d)) passed ∙ ap (λ (q : Request). let read : Result Request RequestFault = Ok q in read) stands
