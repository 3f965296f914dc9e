-- A text that is no pattern is refused with the first of its checks that isn't passed.
use Rattle.std.proofs.Common.{◌≡◌, ◌<◌, ◌≤◌, ℕ, List, [], ◌∷◌, length, Bool, true, false, nat_le, is_some, Option, Some, None, Err, option_and_then, unwrap_or, MatchBool, refl, ap, sym, subst, arith}
use Rattle.serde_json.specs.Data.{Data}
use Rattle.wildcard_lang.specs.declared.piece.Piece.{Piece}
use Rattle.wildcard_lang.specs.declared.pattern.TheConstants.{MOST_PIECES}
use Rattle.wildcard_lang.specs.declared.fault.PatternFault.{PatternFault}
use Rattle.wildcard_lang.specs.declared.fault.PatternFault.TheVariants as pattern_fault
use Rattle.wildcard_lang.specs.Arns.{colons, IsArnRead}
use Rattle.wildcard_lang.specs.Reading.{IsRead}
use Rattle.policy_model.specs.declared.operator.Family.{Family}
use Rattle.policy_model.specs.declared.operator.Family.TheVariants as family
use Rattle.policy_model.specs.declared.operator.Operand.{Operand}
use Rattle.policy_model.specs.Operators.{family_of}
use Rattle.json_shapes.specs.Checks.{first_fault, IsReadOf}
use Rattle.policy_json.specs.declared.fault.PolicyCode.TheVariants.{P11PolicyVariable, P13BadValue, P14ArnParts, P17Limit}
use Rattle.policy_json.specs.declared.operands.KeyLocation.{KeyLocation}
use Rattle.policy_json.specs.Checks.{PolicyCheck, check, fault_at, PolicyAnswer}
use Rattle.policy_json.specs.Operands.{IsPatternRefusal, IsPatternUnder, has_parts, has_patterns, is_arn, is_of_form, operand_of, pieces_of_value, pieces_under, text_in}
use Rattle.json_shapes.specs.declared.read_error.ReadError.TheVariants.{NoMemory}
use Rattle.json_shapes.proofs.Laws.{refused_first}

more : (n m : ℕ) → n < m → nat_le m n ≡ false
more n m h = grind arith

less : (n m : ℕ) → n ≤ m → nat_le n m ≡ true
less n m h = grind arith

-- the checks of a pattern of these pieces
abbrev checks_by : KeyLocation → Family → Bool → Option (List Piece) → List PolicyCheck
checks_by at f formed p =
    check at.location formed P13BadValue at.key.now ∷
    check at.location (is_some p) P11PolicyVariable at.key.now ∷
    check at.location (has_parts f (unwrap_or p [])) P14ArnParts at.key.now ∷
    check at.location (nat_le (length (unwrap_or p [])) MOST_PIECES) P17Limit at.key.now ∷ []

third : (at : KeyLocation) (f : Family) (ps : List Piece) → has_parts f ps ≡ false → first_fault (checks_by at f true (Some ps)) ≡ Some (fault_at at.location P14ArnParts at.key.now)
third at f ps parts = rw parts refl

fourth : (at : KeyLocation) (f : Family) (ps : List Piece) → has_parts f ps ≡ true → nat_le (length ps) MOST_PIECES ≡ false → first_fault (checks_by at f true (Some ps)) ≡ Some (fault_at at.location P17Limit at.key.now)
fourth at f ps parts many = rw (parts, many) refl

-- want of memory
no_memory : (checks : List PolicyCheck) (wanted : Operand) (answer : PolicyAnswer) → answer ≡ NoMemory → IsReadOf {X = Operand} checks wanted (Err answer)
no_memory checks wanted answer is = subst (λ (a : PolicyAnswer). IsReadOf {X = Operand} checks wanted (Err a)) (sym is) tt

of_arn : (at : KeyLocation) (p : Option (List Piece)) (wanted : Operand) (fault : PatternFault) (answer : PolicyAnswer) → IsArnRead p (Err fault) → IsPatternRefusal at fault answer → IsReadOf (checks_by at family.Arn true p) wanted (Err answer)
of_arn at None wanted pattern_fault.PolicyVariable answer read is = refused_first (checks_by at family.Arn true None) wanted _ answer is refl
of_arn at (Some ps) wanted pattern_fault.PolicyVariable answer read is = absurd cc
of_arn at None wanted pattern_fault.ArnParts answer read is = absurd read
of_arn at (Some ps) wanted pattern_fault.ArnParts answer read is = refused_first (checks_by at family.Arn true (Some ps)) wanted _ answer is (third at family.Arn ps (more (colons ps) 5 read))
of_arn at None wanted pattern_fault.TooLong answer read is = absurd read
of_arn at (Some ps) wanted pattern_fault.TooLong answer read is =
    refused_first (checks_by at family.Arn true (Some ps)) wanted _ answer is (fourth at family.Arn ps (less 5 (colons ps) read.0) (more MOST_PIECES (length ps) read.1))
of_arn at p wanted pattern_fault.NoMemory answer read is = no_memory (checks_by at family.Arn true p) wanted answer is

of_text : (at : KeyLocation) (p : Option (List Piece)) (wanted : Operand) (fault : PatternFault) (answer : PolicyAnswer) → IsRead p (Err fault) → IsPatternRefusal at fault answer → IsReadOf (checks_by at family.Text true p) wanted (Err answer)
of_text at None wanted pattern_fault.PolicyVariable answer read is = refused_first (checks_by at family.Text true None) wanted _ answer is refl
of_text at (Some ps) wanted pattern_fault.PolicyVariable answer read is = absurd cc
of_text at p wanted pattern_fault.ArnParts answer read is = absurd read
of_text at None wanted pattern_fault.TooLong answer read is = absurd read
of_text at (Some ps) wanted pattern_fault.TooLong answer read is = refused_first (checks_by at family.Text true (Some ps)) wanted _ answer is (fourth at family.Text ps refl (more MOST_PIECES (length ps) read))
of_text at p wanted pattern_fault.NoMemory answer read is = no_memory (checks_by at family.Text true p) wanted answer is

-- the same of the text that a value has, by the family
of_family : (at : KeyLocation) (f : Family) (pieces : List ℕ → Option (List Piece)) (text : List ℕ) (wanted : Operand) (fault : PatternFault) (answer : PolicyAnswer) → has_patterns f ≡ true →
    MatchBool (is_arn f) (IsArnRead (pieces text) (Err fault)) (IsRead (pieces text) (Err fault)) → IsPatternRefusal at fault answer → IsReadOf (checks_by at f true (pieces text)) wanted (Err answer)
of_family at family.Text pieces text wanted fault answer patterns read is = of_text at (pieces text) wanted fault answer read is
of_family at family.Arn pieces text wanted fault answer patterns read is = of_arn at (pieces text) wanted fault answer read is
of_family at family.Numeric pieces text wanted fault answer patterns read is = absurd cc
of_family at family.Date pieces text wanted fault answer patterns read is = absurd cc
of_family at family.Bool pieces text wanted fault answer patterns read is = absurd cc
of_family at family.Binary pieces text wanted fault answer patterns read is = absurd cc
of_family at family.Address pieces text wanted fault answer patterns read is = absurd cc
of_family at family.Null pieces text wanted fault answer patterns read is = absurd cc

-- the checks of a value are those of its text's pieces
checks_of : (at : KeyLocation) (f : Family) (d : Data) (text : List ℕ) → has_patterns f ≡ true → text_in d ≡ Some text →
    checks_by at f (is_of_form f d) (pieces_of_value f at.operator.base at.escapes d) ≡ checks_by at f true (pieces_under at.operator.base at.escapes text)
checks_of at family.Text d text patterns is = ap (λ (o : Option (List ℕ)). checks_by at family.Text (is_some o) (option_and_then (pieces_under at.operator.base at.escapes) o)) is
checks_of at family.Arn d text patterns is = ap (λ (o : Option (List ℕ)). checks_by at family.Arn (is_some o) (option_and_then (pieces_under at.operator.base at.escapes) o)) is
checks_of at family.Numeric d text patterns is = absurd cc
checks_of at family.Date d text patterns is = absurd cc
checks_of at family.Bool d text patterns is = absurd cc
checks_of at family.Binary d text patterns is = absurd cc
checks_of at family.Address d text patterns is = absurd cc
checks_of at family.Null d text patterns is = absurd cc

-- a value whose text is no pattern
pub refused_text : (at : KeyLocation) (d : Data) (text : List ℕ) (fault : PatternFault) (answer : PolicyAnswer) → has_patterns (family_of at.operator.base) ≡ true → text_in d ≡ Some text →
    IsPatternUnder at.operator.base at.escapes text (Err fault) → IsPatternRefusal at fault answer →
    IsReadOf (checks_by at (family_of at.operator.base) (is_of_form (family_of at.operator.base) d) (pieces_of_value (family_of at.operator.base) at.operator.base at.escapes d)) (operand_of at.operator.base at.escapes d) (Err answer)
refused_text at d text fault answer patterns is read given =
    let f = family_of at.operator.base in
    subst (λ (checks : List PolicyCheck). IsReadOf {X = Operand} checks (operand_of at.operator.base at.escapes d) (Err answer)) (sym (checks_of at f d text patterns is))
    (of_family at f (pieces_under at.operator.base at.escapes) text (operand_of at.operator.base at.escapes d) fault answer patterns read given)
