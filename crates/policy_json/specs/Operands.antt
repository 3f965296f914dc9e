-- Values of conditions (IAM JSON policy reference, condition operators): JSON strings, booleans and numbers. What is checked of one,
-- in this order, and what it stands for. A number that isn't held as a whole number of 64 bits is none: one with a point or an
-- exponent, `-0`, and one above 2^64 - 1 or below -2^63.
use Rattle.std.specs.Prelude.{◌≡◌, ℕ, List, [], ◌∷◌, length, map, Bool, true, false, ℤ, pos, nat_le, is_some, Option, Some, None, Result, option_map, option_and_then, unwrap_or, chars, codes, if◌then◌else◌, MatchBool}
use Rattle.std.specs.List.{flat_map}
use Rattle.std.specs.Str.{str_eq_ignore_ascii_case}
use Rattle.std.specs.Fmt.{signed_decimal}
use Rattle.base64.specs.Engines.{standard}
use Rattle.base64.specs.GeneralPurpose.{decoded_of}
use Rattle.serde_json.specs.Data.{Data, null, boolean, number, string, array, object}
use Rattle.serde_json.specs.Find.{as_integer, as_str, as_u64}
use Rattle.wildcard_lang.specs.declared.piece.Piece.{Piece}
use Rattle.wildcard_lang.specs.declared.fault.PatternFault.{PatternFault}
use Rattle.wildcard_lang.specs.declared.fault.PatternFault.TheVariants as pattern_fault
use Rattle.wildcard_lang.specs.declared.pattern.TheConstants.{MOST_PIECES}
use Rattle.wildcard_lang.specs.Reading.{literal_pieces, glob_pieces, IsRead}
use Rattle.wildcard_lang.specs.Arns.{arn_pieces, colons, IsArnRead}
use Rattle.intervals.specs.Scaled.{whole_units}
use Rattle.intervals.specs.DecimalTexts.{decimal_of}
use Rattle.intervals.specs.MomentTexts.{moment_of}
use Rattle.cidr_bits.specs.declared.block.Block.{Block}
use Rattle.cidr_bits.specs.Readings.{block_spelled}
use Rattle.policy_model.specs.declared.operator.Base.{Base}
use Rattle.policy_model.specs.declared.operator.Base.TheVariants as base
use Rattle.policy_model.specs.declared.operator.Family.{Family}
use Rattle.policy_model.specs.declared.operator.Family.TheVariants as family
use Rattle.policy_model.specs.declared.operator.Operand.{Operand}
use Rattle.policy_model.specs.declared.operator.Operand.TheVariants as operand
use Rattle.policy_model.specs.Operators.{family_of, truth_word}
use Rattle.policy_json.specs.declared.fault.PolicyCode.TheVariants.{P11PolicyVariable, P13BadValue, P14ArnParts, P17Limit}
use Rattle.policy_json.specs.declared.location.Location.{Location}
use Rattle.policy_json.specs.declared.operands.KeyLocation.{KeyLocation}
use Rattle.policy_json.specs.Checks.{PolicyCheck, check, fault_at, PolicyAnswer}
use Rattle.json_shapes.specs.declared.read_error.ReadError.TheVariants.{NoMemory}
use Rattle.json_shapes.specs.Checks.{IsReadOf, IsRefusal}

-- ---- what a value is as a text, a number, a moment, a truth value, bytes and a block; none where it isn't of the form

-- the text in UTF-8: a string is itself, a boolean its name, a number its decimal digits, with `-` before those of a negative one
abbrev pub text_in : Data → Option (List ℕ)
text_in null = None
text_in (boolean b) = Some (truth_word b)
text_in (number x) = option_map signed_decimal (as_integer x)
text_in (string s) = Some s
text_in (array ds) = None
text_in (object ms) = None

-- a string of the decimal form, or a number less than 10^18 in size
abbrev pub number_in : Data → Option ℤ
number_in null = None
number_in (boolean b) = None
number_in (number x) = option_and_then whole_units (as_integer x)
number_in (string s) = decimal_of s
number_in (array ds) = None
number_in (object ms) = None

-- a string of a form of moments, or a number of seconds since 1970-01-01T00:00:00Z, from 0 on and less than 10^18
abbrev pub moment_in : Data → Option ℤ
moment_in null = None
moment_in (boolean b) = None
moment_in (number x) = option_and_then (λ n. whole_units (pos n)) (as_u64 x)
moment_in (string s) = moment_of s
moment_in (array ds) = None
moment_in (object ms) = None

-- the truth value of a text: `true` or `false`, in any case of its ASCII letters
abbrev pub truth_of : List ℕ → Option Bool
truth_of s =
    (if str_eq_ignore_ascii_case s (codes "true") then Some true
    else (if str_eq_ignore_ascii_case s (codes "false") then Some false else None))

abbrev pub truth_in : Data → Option Bool
truth_in null = None
truth_in (boolean b) = Some b
truth_in (number x) = None
truth_in (string s) = truth_of s
truth_in (array ds) = None
truth_in (object ms) = None

-- a string of base64 with its padding (RFC 4648, section 4)
abbrev pub bytes_in : Data → Option (List ℕ)
bytes_in d = option_and_then (decoded_of standard) (as_str d)

-- a string that spells a block of addresses
abbrev pub block_in : Data → Option Block
block_in d = option_and_then block_spelled (as_str d)

-- the operand of a value under a family without patterns, or none where it isn't of the family's form. Of a family with patterns it is
-- never asked
abbrev pub operand_in : Family → Data → Option Operand
operand_in family.Text d = None
operand_in family.Arn d = None
operand_in family.Numeric d = option_map (λ n. operand.Number n) (number_in d)
operand_in family.Date d = option_map (λ n. operand.Number n) (moment_in d)
operand_in family.Bool d = option_map (λ b. operand.Truth b) (truth_in d)
operand_in family.Null d = option_map (λ b. operand.Truth b) (truth_in d)
operand_in family.Binary d = option_map (λ bytes. operand.Bytes bytes) (bytes_in d)
operand_in family.Address d = option_map (λ block. operand.Block block) (block_in d)

-- ---- patterns

-- the pieces of a text under an operator of texts or of ARNs, or none where a policy variable stands in it. Of a base that takes no
-- texts it is never asked
abbrev pub pieces_under : Base → Bool → List ℕ → Option (List Piece)
pieces_under base.StringEquals escapes text = literal_pieces false escapes (chars text)
pieces_under base.StringNotEquals escapes text = literal_pieces false escapes (chars text)
pieces_under base.StringEqualsIgnoreCase escapes text = literal_pieces true escapes (chars text)
pieces_under base.StringNotEqualsIgnoreCase escapes text = literal_pieces true escapes (chars text)
pieces_under base.StringLike escapes text = glob_pieces false escapes (chars text)
pieces_under base.StringNotLike escapes text = glob_pieces false escapes (chars text)
pieces_under b escapes text = arn_pieces escapes (chars text)

-- the pieces of a value. A value of a family without patterns has none, and so no fault of a pattern
abbrev pub pieces_of_value : Family → Base → Bool → Data → Option (List Piece)
pieces_of_value family.Text b escapes d = option_and_then (pieces_under b escapes) (text_in d)
pieces_of_value family.Arn b escapes d = option_and_then (pieces_under b escapes) (text_in d)
pieces_of_value f b escapes d = Some []

-- the pieces of a value (of one with a policy variable, which no check passes, none)
abbrev pub value_pattern : Base → Bool → Data → List Piece
value_pattern b escapes d = unwrap_or (pieces_of_value (family_of b) b escapes d) []

-- ---- what is checked

-- the value is of its family's form
abbrev pub is_of_form : Family → Data → Bool
is_of_form family.Text d = is_some (text_in d)
is_of_form family.Arn d = is_some (text_in d)
is_of_form f d = is_some (operand_in f d)

-- the values of the family are ARNs
abbrev pub is_arn : Family → Bool
is_arn family.Arn = true
is_arn f = false

-- the pattern of an ARN has five plain colons, so that its six parts can be told; every other pattern may have any number
abbrev pub has_parts : Family → List Piece → Bool
has_parts f pieces = (if is_arn f then nat_le 5 (colons pieces) else true)

-- a value is of its family's form; a pattern has no policy variable, an ARN's has six parts, and no more than 2,048 pieces
abbrev pub value_checks : Location → List ℕ → Base → Bool → Data → List PolicyCheck
value_checks location key b escapes d =
    check location (is_of_form (family_of b) d) P13BadValue key ∷
    check location (is_some (pieces_of_value (family_of b) b escapes d)) P11PolicyVariable key ∷
    check location (has_parts (family_of b) (value_pattern b escapes d)) P14ArnParts key ∷
    check location (nat_le (length (value_pattern b escapes d)) MOST_PIECES) P17Limit key ∷ []

-- ---- what it stands for

-- the operand of a value (of one that isn't of its form, which no check passes, any)
abbrev pub operand_under : Family → Base → Bool → Data → Operand
operand_under family.Text b escapes d = operand.Pattern (value_pattern b escapes d)
operand_under family.Arn b escapes d = operand.Pattern (value_pattern b escapes d)
operand_under f b escapes d = unwrap_or (operand_in f d) (operand.Truth false)

abbrev pub operand_of : Base → Bool → Data → Operand
operand_of b escapes d = operand_under (family_of b) b escapes d

-- the values of a family are patterns
abbrev pub has_patterns : Family → Bool
has_patterns family.Text = true
has_patterns family.Arn = true
has_patterns f = false

-- what a reader answers of a text under a base of texts or of ARNs: of ARNs a text with fewer than five plain colons is a fault too
abbrev pub IsPatternUnder : Base → Bool → List ℕ → Result (List Piece) PatternFault → Type 0
IsPatternUnder b escapes text result =
    MatchBool (is_arn (family_of b)) (IsArnRead (pieces_under b escapes text) result) (IsRead (pieces_under b escapes text) result)

-- what a reader answers of a value of a key, and of several
abbrev pub IsOperandRead : KeyLocation → Data → Result Operand PolicyAnswer → Type 0
IsOperandRead at d =
    IsReadOf (value_checks at.location at.key.now at.operator.base at.escapes d) (operand_of at.operator.base at.escapes d)

abbrev pub AreOperandsRead : KeyLocation → List Data → Result (List Operand) PolicyAnswer → Type 0
AreOperandsRead at ds =
    IsReadOf (flat_map (value_checks at.location at.key.now at.operator.base at.escapes) ds)
    (map (operand_of at.operator.base at.escapes) ds)

-- what the refusal of a text that is no pattern is, by the reader's fault
abbrev pub IsPatternRefusal : KeyLocation → PatternFault → PolicyAnswer → Type 0
IsPatternRefusal at pattern_fault.PolicyVariable answer = IsRefusal (fault_at at.location P11PolicyVariable at.key.now) answer
IsPatternRefusal at pattern_fault.ArnParts answer = IsRefusal (fault_at at.location P14ArnParts at.key.now) answer
IsPatternRefusal at pattern_fault.TooLong answer = IsRefusal (fault_at at.location P17Limit at.key.now) answer
IsPatternRefusal at pattern_fault.NoMemory answer = answer ≡ NoMemory
