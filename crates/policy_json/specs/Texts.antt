-- Actions and resources: patterns with the wildcards `*` and `?` (IAM JSON policy reference, Action and Resource). Actions are
-- compared without regard to the case of ASCII letters, and `${` is plain text in them; resources are compared with regard to
-- case, and in a document of version 2012-10-17 they have escapes and policy variables.
use Rattle.std.specs.Prelude.{ℕ, List, [], ◌∷◌, length, map, Bool, true, false, nat_le, is_some, Option, Some, None, Result, unwrap_or}
use Rattle.std.specs.List.{flat_map}
use Rattle.serde_json.specs.Data.{Data}
use Rattle.wildcard_lang.specs.declared.piece.Piece.{Piece}
use Rattle.wildcard_lang.specs.Reading.{glob_pieces}
use Rattle.policy_model.specs.declared.matcher.Matcher.{Matcher}
use Rattle.policy_json.specs.declared.fault.PolicyCode.TheVariants.{P4WrongShape, P11PolicyVariable, P17Limit}
use Rattle.policy_json.specs.declared.location.Location.{Location}
use Rattle.policy_json.specs.Checks.{PolicyCheck, check, PolicyAnswer}
use Rattle.json_shapes.specs.Json.{one_or_more, text_of}
use Rattle.json_shapes.specs.Shapes.{are_strings}
use Rattle.wildcard_lang.specs.declared.pattern.TheConstants.{MOST_PIECES}
use Rattle.json_shapes.specs.Checks.{IsReadOf}

-- the pieces that a string stands for, or none where a policy variable stands in it
abbrev pub pieces_of : Bool → Bool → Data → Option (List Piece)
pieces_of fold escapes d = glob_pieces fold escapes (text_of d)

-- the pieces of a pattern (of a string with a policy variable, which no check passes, none)
abbrev pub glob_of : Bool → Bool → Data → List Piece
glob_of fold escapes d = unwrap_or (pieces_of fold escapes d) []

-- a string has no policy variable, and then at most 2,048 pieces; folding changes no count of pieces
abbrev pub pattern_checks : Location → List ℕ → Bool → Data → List PolicyCheck
pattern_checks location name escapes d =
    check location (is_some (pieces_of false escapes d)) P11PolicyVariable name ∷
    check location (nat_le (length (glob_of false escapes d)) MOST_PIECES) P17Limit name ∷ []

-- an element of patterns, where it is there, is a string or a list of strings, and then each is a pattern
abbrev pub patterns_checks : Location → List ℕ → Bool → Option Data → List PolicyCheck
patterns_checks location name escapes None = []
patterns_checks location name escapes (Some d) =
    check location (are_strings d) P4WrongShape name ∷ flat_map (pattern_checks location name escapes) (one_or_more d)

-- the patterns of an element
abbrev pub globs_of : Bool → Bool → Data → List (List Piece)
globs_of fold escapes d = map (glob_of fold escapes) (one_or_more d)

-- what an element or its Not element stands for, whichever is there
abbrev pub matcher_of : {X : Type 0} → (Data → List X) → Option Data → Option Data → Option (Matcher X)
matcher_of items (Some d) other = Some (record { not = false; items = items d })
matcher_of items None (Some d) = Some (record { not = true; items = items d })
matcher_of items None None = None

-- what a reader answers of a string that is a pattern, of several, and of an element of patterns
abbrev pub IsPatternRead : Location → List ℕ → Bool → Bool → Data → Result (List Piece) PolicyAnswer → Type 0
IsPatternRead location name fold escapes d = IsReadOf (pattern_checks location name escapes d) (glob_of fold escapes d)

abbrev pub ArePatternsRead : Location → List ℕ → Bool → Bool → List Data → Result (List (List Piece)) PolicyAnswer → Type 0
ArePatternsRead location name fold escapes ds =
    IsReadOf (flat_map (pattern_checks location name escapes) ds) (map (glob_of fold escapes) ds)

abbrev pub IsElementRead : Location → List ℕ → Bool → Bool → Data → Result (List (List Piece)) PolicyAnswer → Type 0
IsElementRead location name fold escapes d =
    IsReadOf (patterns_checks location name escapes (Some d)) (globs_of fold escapes d)
