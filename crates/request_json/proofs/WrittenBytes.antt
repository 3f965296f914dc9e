-- The texts of values are of UTF-8.
use Rattle.std.proofs.Common.{Bool, true, false, refl}
use Rattle.std.specs.Prelude.{codes}
use Rattle.std.specs.Str.{IsUtf8}
use Rattle.std.proofs.lemmas.Str.{IsUtf8-from_ascii}
use Rattle.json.proofs.Printed.Utf8.{IsUtf8-are_ascii}
use Rattle.base64.specs.Engines.{standard}
use Rattle.base64.proofs.EngineFacts.{IsAscii-encode_of}
use Rattle.intervals.specs.DecimalTexts.{written_decimal}
use Rattle.cidr_bits.specs.Texts.{address_text}
use Rattle.policy_model.specs.declared.value.Kind.{Kind}
use Rattle.policy_model.specs.declared.value.Kind.TheVariants as kind
use Rattle.policy_model.specs.declared.value.Value.{Value}
use Rattle.policy_model.specs.declared.value.Value.TheVariants as value
use Rattle.policy_model.specs.Operators.{truth_word}
use Rattle.policy_model.specs.Requests.{IsOfKind}
use Rattle.policy_model.proofs.AsciiTexts.{address-low, low-utf8, number-low}
use Rattle.request_json.specs.RequestTexts.{value_text}

truth-utf8 : (b : Bool) → IsUtf8 (truth_word b)
truth-utf8 true = IsUtf8-are_ascii (codes "true") refl
truth-utf8 false = IsUtf8-are_ascii (codes "false") refl

pub value-utf8 : (k : Kind) (v : Value) → IsOfKind k v → IsUtf8 (value_text v)
value-utf8 kind.Text (value.Word t) is = (t, (is, refl))
value-utf8 kind.Text (value.Truth b) is = absurd is
value-utf8 kind.Text (value.Number n) is = absurd is
value-utf8 kind.Text (value.Address a) is = absurd is
value-utf8 kind.Text (value.Bytes bs) is = absurd is
value-utf8 kind.Truth (value.Word t) is = absurd is
value-utf8 kind.Truth (value.Truth b) is = truth-utf8 b
value-utf8 kind.Truth (value.Number n) is = absurd is
value-utf8 kind.Truth (value.Address a) is = absurd is
value-utf8 kind.Truth (value.Bytes bs) is = absurd is
value-utf8 kind.Number (value.Word t) is = absurd is
value-utf8 kind.Number (value.Truth b) is = absurd is
value-utf8 kind.Number (value.Number n) is = low-utf8 (written_decimal n) (number-low n is)
value-utf8 kind.Number (value.Address a) is = absurd is
value-utf8 kind.Number (value.Bytes bs) is = absurd is
value-utf8 kind.Address (value.Word t) is = absurd is
value-utf8 kind.Address (value.Truth b) is = absurd is
value-utf8 kind.Address (value.Number n) is = absurd is
value-utf8 kind.Address (value.Address a) is = low-utf8 (address_text a) (address-low a)
value-utf8 kind.Address (value.Bytes bs) is = absurd is
value-utf8 kind.Bytes (value.Word t) is = absurd is
value-utf8 kind.Bytes (value.Truth b) is = absurd is
value-utf8 kind.Bytes (value.Number n) is = absurd is
value-utf8 kind.Bytes (value.Address a) is = absurd is
value-utf8 kind.Bytes (value.Bytes bs) is = IsUtf8-from_ascii (value_text (value.Bytes bs)) (IsAscii-encode_of standard bs)
