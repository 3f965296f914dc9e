-- The text of a value under its operator is read as that value, and has no fault.
use Rattle.std.proofs.Common.{◌≡◌, ◌<◌, ◌≤◌, ◌⊎◌, ℕ, ℤ, List, [], ◌∷◌, Bool, true, false, nat_le, is_some, Option, Some, None, option_map, unwrap_or, length, All as Each, chars, refl, sym, ap, subst, ◌∙◌, if◌then◌else◌, inl, inr, arith}
use Rattle.std.specs.Prelude.{slice_index}
use Rattle.std.specs.Result.{result_ok}
use Rattle.std.specs.Str.{IsUtf8, encode_utf8_all}
use Rattle.std.proofs.Math.ListN.{get_or-eq_default}
use Rattle.std.proofs.lemmas.Bool.{cases_lt, le-leb}
use Rattle.std.proofs.lemmas.Str.{chars_from_encodes, IsUtf8-from_ascii}
use Rattle.json.proofs.Printed.Utf8.{IsUtf8-are_ascii}
use Rattle.base64.specs.Engines.{standard}
use Rattle.base64.specs.GeneralPurpose.{decoded_of, encode_of}
use Rattle.base64.proofs.EngineFacts.{IsAscii-encode_of, decode_of-encode_of}
use Rattle.json_shapes.specs.Checks.{first_fault}
use Rattle.intervals.specs.DecimalTexts.{decimal_of, written_decimal}
use Rattle.intervals.specs.Scaled.{IsScaled}
use Rattle.intervals.proofs.Laws.{read_again}
use Rattle.cidr_bits.specs.declared.address.Address as address
use Rattle.cidr_bits.specs.declared.block.Block as block
use Rattle.cidr_bits.specs.Blocks.{block_around}
use Rattle.cidr_bits.specs.Laws.{BlockIsSpelled, BlockOfIsTheForm}
use Rattle.cidr_bits.specs.Numbers.{IsAddress}
use Rattle.cidr_bits.specs.Readings.{block_of, block_spelled}
use Rattle.cidr_bits.specs.Texts.{block_text}
use Rattle.cidr_bits.proofs.Laws.{block_is_around_its_first}
use Rattle.wildcard_lang.specs.declared.pattern.TheConstants.{MOST_PIECES}
use Rattle.wildcard_lang.specs.declared.piece.Piece.{Piece}
use Rattle.wildcard_lang.specs.Arns.{arn_pieces, colons}
use Rattle.wildcard_lang.specs.Patterns.{IsPattern}
use Rattle.wildcard_lang.specs.Reading.{glob_pieces, literal_pieces}
use Rattle.wildcard_lang.specs.Text.{IsText}
use Rattle.wildcard_lang.specs.WrittenAgain.{IsArnOf, IsGlobOf, IsLiteralOf}
use Rattle.wildcard_lang.specs.Writing.{written_form}
use Rattle.wildcard_lang.proofs.Laws.{IsText-written, arns-again, globs-again, literals-again}
use Rattle.policy_model.specs.declared.operator.Base.{Base}
use Rattle.policy_model.specs.declared.operator.Base.TheVariants as base
use Rattle.policy_model.specs.declared.operator.Operand.{Operand}
use Rattle.policy_model.specs.declared.operator.Operand.TheVariants.{Pattern, Number, Block, Truth, Bytes}
use Rattle.policy_model.specs.Operators.{family_of, truth_word}
use Rattle.policy_json.specs.declared.fault.PolicyCode.{PolicyCode}
use Rattle.policy_json.specs.declared.fault.PolicyFault.{PolicyFault}
use Rattle.policy_json.specs.Checks.{check}
use Rattle.policy_json.specs.Operands.{has_parts, is_of_form, operand_of, pieces_of_value, value_checks, value_pattern}
use Rattle.policy_emit.specs.Written.{operand_data, operand_text}
use Rattle.policy_model.proofs.AsciiTexts.{block-low, low-utf8, number-low}

pub chars-encoded : (t : List ℕ) → IsText t → chars (encode_utf8_all t) ≡ t
chars-encoded t text = sym (chars_from_encodes t (encode_utf8_all t) (t, (text, refl)) refl)

pub encoded-utf8 : (t : List ℕ) → IsText t → IsUtf8 (encode_utf8_all t)
encoded-utf8 t text = (t, (text, refl))

-- the value is read again under the base, without a fault
pub record IsOperandAgain (b : Base) (o : Operand) : Type 0 where
  pub utf8 : IsUtf8 (operand_text o)
  pub stands : operand_of b true (operand_data o) ≡ o
  pub passes : (location : _) (key : List ℕ) → first_fault (value_checks location key b true (operand_data o)) ≡ None

pub if-passes : (p : Bool) (fault : PolicyFault) (rest : Option PolicyFault) → p ≡ true → rest ≡ None → (if p then rest else Some fault) ≡ None
if-passes true fault rest e f = f
if-passes false fault rest e f = absurd (cc)

four-pass : (location : _) (key : List ℕ) (p q r s : Bool) (a b c d : PolicyCode) → p ≡ true → q ≡ true → r ≡ true → s ≡ true →
    first_fault (check location p a key ∷ check location q b key ∷ check location r c key ∷ check location s d key ∷ []) ≡ None
four-pass location key true true true true a b c d e f g h = refl
four-pass location key true true true false a b c d e f g h = absurd (cc)
four-pass location key true true false s a b c d e f g h = absurd (cc)
four-pass location key true false r s a b c d e f g h = absurd (cc)
four-pass location key false q r s a b c d e f g h = absurd (cc)

-- ---- patterns

module _ (p : List Piece) (pattern : IsPattern p) where
  form-text : IsText (written_form p)
  form-text = IsText-written p pattern.scalars

  fits : nat_le (length p) MOST_PIECES ≡ true
  fits = le-leb (length p) MOST_PIECES pattern.fits

  pattern-passes : (b : Base) → is_of_form (family_of b) (operand_data (Pattern p)) ≡ true → pieces_of_value (family_of b) b true (operand_data (Pattern p)) ≡ Some p → has_parts (family_of b) p ≡ true →
      (location : _) (key : List ℕ) → first_fault (value_checks location key b true (operand_data (Pattern p))) ≡ None
  pattern-passes b formed read parts = λ location key.
      let is : value_pattern b true (operand_data (Pattern p)) ≡ p = ap (λ (o : Option (List Piece)). unwrap_or o []) read in
      four-pass location key _ _ _ _ _ _ _ _ formed (ap is_some read) (ap (has_parts (family_of b)) is ∙ parts) (ap (λ (ps : List Piece). nat_le (length ps) MOST_PIECES) is ∙ fits)

  pub like-again : IsGlobOf false true p → IsOperandAgain base.StringLike (Pattern p)
  like-again glob =
      let read : glob_pieces false true (chars (operand_text (Pattern p))) ≡ Some p = ap (glob_pieces false true) (chars-encoded (written_form p) form-text) ∙ globs-again false true p glob in record {
        utf8 = encoded-utf8 (written_form p) form-text;
        stands = ap (λ (o : Option (List Piece)). Pattern (unwrap_or o [])) read;
        passes = pattern-passes base.StringLike refl read refl;
      }

  pub fold-again : IsLiteralOf true true p → IsOperandAgain base.StringEqualsIgnoreCase (Pattern p)
  fold-again literal =
      let read : literal_pieces true true (chars (operand_text (Pattern p))) ≡ Some p = ap (literal_pieces true true) (chars-encoded (written_form p) form-text) ∙ literals-again true true p literal in record {
        utf8 = encoded-utf8 (written_form p) form-text;
        stands = ap (λ (o : Option (List Piece)). Pattern (unwrap_or o [])) read;
        passes = pattern-passes base.StringEqualsIgnoreCase refl read refl;
      }

  pub arn-again : IsArnOf true p → IsOperandAgain base.ArnLike (Pattern p)
  arn-again arn =
      let read : arn_pieces true (chars (operand_text (Pattern p))) ≡ Some p = ap (arn_pieces true) (chars-encoded (written_form p) form-text) ∙ arns-again true p arn in record {
        utf8 = encoded-utf8 (written_form p) form-text;
        stands = ap (λ (o : Option (List Piece)). Pattern (unwrap_or o [])) read;
        passes = pattern-passes base.ArnLike refl read (le-leb 5 (colons p) arn.2);
      }

-- ---- numbers

-- the base compares numbers, other than for being different
abbrev pub IsNumeric : Base → Type 0
IsNumeric base.NumericEquals = Unit {0}
IsNumeric base.NumericLessThan = Unit {0}
IsNumeric base.NumericLessThanEquals = Unit {0}
IsNumeric base.NumericGreaterThan = Unit {0}
IsNumeric base.NumericGreaterThanEquals = Unit {0}
IsNumeric b = ⊥

number-at : (b : Base) (units : ℤ) → IsScaled units → operand_of b true (operand_data (Number units)) ≡ unwrap_or (option_map Number (decimal_of (written_decimal units))) (Truth false) →
    ((location : _) (key : List ℕ) → is_some (option_map Number (decimal_of (written_decimal units))) ≡ true → first_fault (value_checks location key b true (operand_data (Number units))) ≡ None) → IsOperandAgain b (Number units)
number-at b units scaled stands passes = record {
  utf8 = low-utf8 (written_decimal units) (number-low units scaled);
  stands = stands ∙ ap (λ (o : Option ℤ). unwrap_or (option_map Number o) (Truth false)) (read_again units scaled);
  passes = λ location key. passes location key (ap (λ (o : Option ℤ). is_some (option_map Number o)) (read_again units scaled));
}

pub number-again : (b : Base) (units : ℤ) → IsScaled units → IsNumeric b → IsOperandAgain b (Number units)
number-again base.NumericEquals units scaled is = number-at base.NumericEquals units scaled refl (λ location key e. if-passes _ _ _ e refl)
number-again base.NumericLessThan units scaled is = number-at base.NumericLessThan units scaled refl (λ location key e. if-passes _ _ _ e refl)
number-again base.NumericLessThanEquals units scaled is = number-at base.NumericLessThanEquals units scaled refl (λ location key e. if-passes _ _ _ e refl)
number-again base.NumericGreaterThan units scaled is = number-at base.NumericGreaterThan units scaled refl (λ location key e. if-passes _ _ _ e refl)
number-again base.NumericGreaterThanEquals units scaled is = number-at base.NumericGreaterThanEquals units scaled refl (λ location key e. if-passes _ _ _ e refl)
number-again b units scaled is = absurd is

-- ---- blocks

block-read : BlockOfIsTheForm → BlockIsSpelled → (own : block.Block) → IsAddress own.first → block_spelled (block_text own.first own.prefix) ≡ Some own
block-read form spelled own is =
    let read : block_of (block_text own.first own.prefix) ≡ Some (own.first, own.prefix) = (form (block_text own.first own.prefix) own.first own.prefix).1 (spelled own is) in
    ap (option_map (λ (parts : address.Address × ℕ). block_around parts.0 parts.1)) read ∙ ap Some (block_is_around_its_first own)

pub block-again : BlockOfIsTheForm → BlockIsSpelled → (own : block.Block) → IsAddress own.first → IsOperandAgain base.IpAddress (Block own)
block-again form spelled own is =
    let read = block-read form spelled own is in record {
      utf8 = low-utf8 (block_text own.first own.prefix) (block-low own);
      stands = ap (λ (o : Option block.Block). unwrap_or (option_map Block o) (Truth false)) read;
      passes = λ location key. if-passes _ _ _ (ap (λ (o : Option block.Block). is_some (option_map Block o)) read) refl;
    }

-- ---- truth values and bytes

pub truth-again : (b : Bool) → IsOperandAgain base.Bool (Truth b)
truth-again true = record { utf8 = IsUtf8-are_ascii (truth_word true) refl; stands = refl; passes = λ location key. refl }
truth-again false = record { utf8 = IsUtf8-are_ascii (truth_word false) refl; stands = refl; passes = λ location key. refl }

byte-at : (bs : List ℕ) (i : ℕ) → Each (λ b. b < 256) bs → (i < length bs) ⊎ (length bs ≤ i) → slice_index bs i < 256
byte-at bs i all (inl within) = all i 0 within
byte-at bs i all (inr past) = subst (λ (b : ℕ). b < 256) (sym (get_or-eq_default bs 0 past)) (omega arith)

bytes-read : (bs : List ℕ) → Each (λ b. b < 256) bs → decoded_of standard (encode_of standard bs) ≡ Some bs
unfolding decoded_of
bytes-read bs all = ap result_ok (decode_of-encode_of standard bs refl (λ i. byte-at bs i all (cases_lt i (length bs))))

pub bytes-again : (bs : List ℕ) → Each (λ b. b < 256) bs → IsOperandAgain base.BinaryEquals (Bytes bs)
bytes-again bs all =
    let read = bytes-read bs all in record {
      utf8 = IsUtf8-from_ascii (encode_of standard bs) (IsAscii-encode_of standard bs);
      stands = ap (λ (o : Option (List ℕ)). unwrap_or (option_map Bytes o) (Truth false)) read;
      passes = λ location key. if-passes _ _ _ (ap (λ (o : Option (List ℕ)). is_some (option_map Bytes o)) read) refl;
    }
