-- A request as a text is read as its JSON.
use Rattle.std.proofs.Common.{ℕ, List, [], ◌∷◌, map, fold, All, codes, refl}
use Rattle.std.specs.Str.{IsUtf8, encode_utf8_all}
use Rattle.std.proofs.lemmas.List.Elements.{All-head, All-tail}
use Rattle.json.proofs.Printed.Utf8.{IsUtf8-are_ascii}
use Rattle.serde_json.specs.Data.{object, Members, no_members, put}
use Rattle.serde_json.specs.View.{items_of}
use Rattle.json_shapes.specs.Spelled.{IsReadAgain, IsSpelled, ItemsAreSpelled}
use Rattle.json_shapes.proofs.Laws.{read-again, spelled-put}
use Rattle.policy_model.specs.Principals.{kind_word}
use Rattle.policy_model.specs.declared.principal.PrincipalKind.{PrincipalKind}
use Rattle.policy_model.specs.declared.principal.PrincipalKind.TheVariants.{Aws, Service, Federated, CanonicalUser}
use Rattle.policy_model.specs.declared.request.Request.{Request}
use Rattle.policy_model.specs.declared.value.Value.{Value}
use Rattle.wildcard_lang.specs.Text.{IsText}
use Rattle.request_json.specs.RequestTexts.{request_data, value_data, value_text, values_data}
use Rattle.request_json.proofs.Flat.{request-depth}
use Rattle.request_json.proofs.KeysRead.{Keys}

abbrev pub AreUtf8 : List Value → Type 0
AreUtf8 vs = All (λ v. IsUtf8 (value_text v)) vs

-- names and values are of UTF-8
pub record AreWritten (e : List ℕ × List Value) : Type 0 where
  pub name : IsText e.0
  pub values : AreUtf8 e.1

encoded-utf8 : (t : List ℕ) → IsText t → IsUtf8 (encode_utf8_all t)
encoded-utf8 t text = (t, (text, refl))

values-spelled : (vs : List Value) → AreUtf8 vs → ItemsAreSpelled (items_of (map value_data vs))
values-spelled [] utf8 = tt
values-spelled (v ∷ vs) utf8 = (All-head (λ w. IsUtf8 (value_text w)) v vs utf8, values-spelled vs (All-tail (λ w. IsUtf8 (value_text w)) v vs utf8))

context-spelled : (es : Keys) (ms : Members) → All AreWritten es → IsSpelled (object ms) → IsSpelled (object (fold (λ ms e. put (encode_utf8_all e.0) (values_data e.1) ms) ms es))
context-spelled [] ms written spelled = spelled
context-spelled (e ∷ es) ms written spelled =
    let own = All-head AreWritten e es written in
    context-spelled es (put (encode_utf8_all e.0) (values_data e.1) ms) (All-tail AreWritten e es written)
    (spelled-put (encode_utf8_all e.0) (values_data e.1) ms (encoded-utf8 e.0 own.name) (values-spelled e.1 own.values) spelled)

kind-utf8 : (k : PrincipalKind) → IsUtf8 (kind_word k)
kind-utf8 Aws = IsUtf8-are_ascii (codes "AWS") refl
kind-utf8 Service = IsUtf8-are_ascii (codes "Service") refl
kind-utf8 Federated = IsUtf8-are_ascii (codes "Federated") refl
kind-utf8 CanonicalUser = IsUtf8-are_ascii (codes "CanonicalUser") refl

request-spelled : (r : Request) → IsText r.id → IsText r.action → IsText r.resource → All AreWritten r.context → IsSpelled (request_data r)
request-spelled r id action resource written = (
  ((refl, (refl, (refl, tt))), ((refl, (refl, tt)), ((refl, tt), (tt, tt)))),
  (
    (IsUtf8-are_ascii (codes "Action") refl, encoded-utf8 r.action action),
    (
      (IsUtf8-are_ascii (codes "Context") refl, context-spelled r.context no_members written (tt, tt)),
      (
        (IsUtf8-are_ascii (codes "Principal") refl, ((tt, tt), ((kind-utf8 r.kind, encoded-utf8 r.id id), tt))),
        ((IsUtf8-are_ascii (codes "Resource") refl, encoded-utf8 r.resource resource), tt),
      ),
    ),
  ),
)

-- alone and with a line feed behind it
pub json-again : (r : Request) → IsText r.id → IsText r.action → IsText r.resource → All AreWritten r.context → IsReadAgain (request_data r)
json-again r id action resource written = read-again (request_data r) (request-spelled r id action resource written) (request-depth r)
