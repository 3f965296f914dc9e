-- Requests as texts: one line of JSON (RFC 8259). This project's own format: an object with the names `Action`, `Context`,
-- `Principal` and `Resource`. All of them stand there, and only texts stand in it.
use Rattle.std.specs.Prelude.{ℕ, List, map, fold, codes}
use Rattle.std.specs.Str.{encode_utf8_all}
use Rattle.serde_json.specs.Data.{Data, array, object, Members, no_members, member, put, string}
use Rattle.serde_json.specs.View.{items_of}
use Rattle.serde_json.specs.Written.{compact_text}
use Rattle.base64.specs.Engines.{standard}
use Rattle.base64.specs.GeneralPurpose.{encode_of}
use Rattle.cidr_bits.specs.Texts.{address_text}
use Rattle.intervals.specs.DecimalTexts.{written_decimal}
use Rattle.text_table.specs.Table.{Entries}
use Rattle.policy_model.specs.Operators.{truth_word}
use Rattle.policy_model.specs.Principals.{kind_word}
use Rattle.policy_model.specs.declared.request.Request.{Request}
use Rattle.policy_model.specs.declared.value.Value.{Value}
use Rattle.policy_model.specs.declared.value.Value.TheVariants.{Word, Truth, Number, Address, Bytes}

-- the text of a value: a text itself, `true` or `false`, a number in decimal, an address in its one form, bytes in Base64 with
-- its padding (RFC 4648)
abbrev pub value_text : Value → List ℕ
value_text (Word t) = encode_utf8_all t
value_text (Truth b) = truth_word b
value_text (Number n) = written_decimal n
value_text (Address a) = address_text a
value_text (Bytes bs) = encode_of standard bs

-- a value as JSON
abbrev pub value_data : Value → Data
value_data v = string (value_text v)

-- the values of a key, in their order
abbrev pub values_data : List Value → Data
values_data vs = array (items_of (map value_data vs))

-- the keys that have values, each with them
abbrev pub context_members : Entries (List Value) → Members
context_members entries = fold (λ ms entry. put (encode_utf8_all entry.0) (values_data entry.1) ms) no_members entries

-- a principal as JSON
abbrev pub principal_data : Request → Data
principal_data q = object (member (kind_word q.kind) (string (encode_utf8_all q.id)) no_members)

-- a request as JSON
abbrev pub request_data : Request → Data
request_data q =
    let action = string (encode_utf8_all q.action) in
    let context = object (context_members q.context) in
    let resource = string (encode_utf8_all q.resource) in
    let end = member (codes "Principal") (principal_data q) (member (codes "Resource") resource no_members) in
    object (member (codes "Action") action (member (codes "Context") context end))

-- the same, put part by part among members
abbrev pub with_parts : Request → Members → Members
with_parts q ms =
    put (codes "Resource") (string (encode_utf8_all q.resource)) (put (codes "Principal") (principal_data q)
    (put (codes "Context") (object (context_members q.context)) (put (codes "Action") (string (encode_utf8_all q.action)) ms)))

-- and as a text
abbrev pub request_text : Request → List ℕ
request_text q = compact_text (request_data q)
