-- How values of a condition key are written as texts in schema files and request files: this project's own form. A text is itself, a
-- truth value is `true` or `false`, a number is of the decimal form, an address of its form, bytes are base64 with padding.
use Rattle.std.specs.Prelude.{ℕ, List, Bool, true, false, Option, Some, None, option_map, chars, codes, bytes_eq, if◌then◌else◌}
use Rattle.base64.specs.Engines.{standard}
use Rattle.base64.specs.GeneralPurpose.{decoded_of}
use Rattle.intervals.specs.DecimalTexts.{decimal_of}
use Rattle.cidr_bits.specs.Readings.{address_of}
use Rattle.policy_model.specs.declared.value.Kind.{Kind}
use Rattle.policy_model.specs.declared.value.Kind.TheVariants as kind
use Rattle.policy_model.specs.declared.value.Value.{Value}
use Rattle.policy_model.specs.declared.value.Value.TheVariants as value

-- the truth value of its name, in lower case
abbrev pub truth_named : List ℕ → Option Bool
truth_named s = (if bytes_eq s (codes "true") then Some true else (if bytes_eq s (codes "false") then Some false else None))

-- the value of the kind that a text in UTF-8 writes, or none
abbrev pub value_written : Kind → List ℕ → Option Value
value_written kind.Text s = Some (value.Word (chars s))
value_written kind.Truth s = option_map value.Truth (truth_named s)
value_written kind.Number s = option_map value.Number (decimal_of s)
value_written kind.Address s = option_map value.Address (address_of s)
value_written kind.Bytes s = option_map value.Bytes (decoded_of standard s)
