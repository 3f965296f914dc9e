-- Statements (IAM JSON policy reference, Statement): what is checked of one, in this order, and what it stands for.
use Rattle.std.specs.Prelude.{ℕ, List, [], ◌∷◌, ◌++◌, Bool, true, false, ◌||◌, nat_le, Option, Result, unwrap_or, codes}
use Rattle.serde_json.specs.Data.{Data}
use Rattle.serde_json.specs.Find.{get}
use Rattle.wildcard_lang.specs.declared.piece.Piece.{Piece}
use Rattle.policy_model.specs.declared.matcher.Matcher.{Matcher}
use Rattle.policy_model.specs.declared.set.Statement.{Statement}
use Rattle.policy_json.specs.declared.fault.PolicyCode.TheVariants.{P4WrongShape, P5MissingElement, P8BadEffect, P17Limit}
use Rattle.policy_json.specs.declared.location.Location.{Location}
use Rattle.policy_model.specs.declared.principal.Entry.{Entry}
use Rattle.policy_json.specs.Checks.{PolicyCheck, check, name_checks, PolicyAnswer}
use Rattle.policy_json.specs.Conditions.{condition_checks, conditions_of}
use Rattle.policy_json.specs.Elements.{both_checks}
use Rattle.json_shapes.specs.Json.{has_name}
use Rattle.json_shapes.specs.Shapes.{is_object, is_string, is_text, is_there_and, where_there}
use Rattle.policy_json.specs.Texts.{matcher_of, patterns_checks, globs_of}
use Rattle.policy_json.specs.Principals.{entries_of, principal_checks}
use Rattle.policy_json.specs.declared.statement.TheConstants.{MOST_STATEMENTS}
use Rattle.json_shapes.specs.Checks.{IsReadOf}

-- the names that a statement may have
abbrev pub statement_names : List (List ℕ)
statement_names =
    codes "Sid" ∷ codes "Effect" ∷ codes "Principal" ∷ codes "NotPrincipal" ∷ codes "Action" ∷ codes "NotAction" ∷
    codes "Resource" ∷ codes "NotResource" ∷ codes "Condition" ∷ []

-- the effect is `Allow` or `Deny`
abbrev pub is_effect : Data → Bool
is_effect d = is_text (codes "Allow") d || is_text (codes "Deny") d

-- it is one of the first 2,000 statements of its set, and an object with known names
abbrev pub form_checks : Location → ℕ → Data → List PolicyCheck
form_checks location in_set d =
    check location (nat_le in_set MOST_STATEMENTS) P17Limit (codes "Statement") ∷
    check location (is_object d) P4WrongShape (codes "Statement") ∷
    name_checks location statement_names d

-- its `Sid`, where it is there, is a string; it has an effect, which is `Allow` or `Deny`
abbrev pub effect_checks : Location → Data → List PolicyCheck
effect_checks location d =
    check location (where_there is_string (get (codes "Sid") d)) P4WrongShape (codes "Sid") ∷
    check location (has_name (codes "Effect") d) P5MissingElement (codes "Effect") ∷
    check location (is_there_and is_string (get (codes "Effect") d)) P4WrongShape (codes "Effect") ∷
    check location (is_there_and is_effect (get (codes "Effect") d)) P8BadEffect (codes "Effect") ∷ []

-- it has at most one of the two elements of principals
abbrev pub who_checks : Location → Data → List PolicyCheck
who_checks location d =
    both_checks location (codes "Principal") (codes "NotPrincipal") d
    ++ (principal_checks location (codes "Principal") (get (codes "Principal") d)
    ++ principal_checks location (codes "NotPrincipal") (get (codes "NotPrincipal") d))

-- it has exactly one of the two elements of actions
abbrev pub action_checks : Location → Data → List PolicyCheck
action_checks location d =
    both_checks location (codes "Action") (codes "NotAction") d
    ++ (check location (has_name (codes "Action") d || has_name (codes "NotAction") d) P5MissingElement (codes "Action") ∷
    (patterns_checks location (codes "Action") false (get (codes "Action") d)
    ++ patterns_checks location (codes "NotAction") false (get (codes "NotAction") d)))

-- it has at most one of the two elements of resources
abbrev pub resource_checks : Location → Bool → Data → List PolicyCheck
resource_checks location escapes d =
    both_checks location (codes "Resource") (codes "NotResource") d
    ++ (patterns_checks location (codes "Resource") escapes (get (codes "Resource") d)
    ++ patterns_checks location (codes "NotResource") escapes (get (codes "NotResource") d))

-- all checks of the statement, which is the one of this number in its set, in a document with escapes or without
abbrev pub statement_checks : Location → ℕ → Bool → Data → List PolicyCheck
statement_checks location in_set escapes d =
    form_checks location in_set d ++ (effect_checks location d ++ (who_checks location d
    ++ (action_checks location d ++ (resource_checks location escapes d
    ++ condition_checks location escapes (get (codes "Condition") d)))))

-- the element of actions: one stands in each statement that passes its checks
abbrev pub actions_of : Data → Matcher (List Piece)
actions_of d =
    unwrap_or (matcher_of (globs_of true false) (get (codes "Action") d) (get (codes "NotAction") d))
    (record { not = false; items = [] })

-- whether the statement allows
abbrev pub has_effect_allow : Data → Bool
has_effect_allow d = is_there_and (is_text (codes "Allow")) (get (codes "Effect") d)

-- its principals and its resources, or none where it has no such element
abbrev pub who_of : Data → Option (Matcher Entry)
who_of d = matcher_of entries_of (get (codes "Principal") d) (get (codes "NotPrincipal") d)

abbrev pub resources_of : Bool → Data → Option (Matcher (List Piece))
resources_of escapes d = matcher_of (globs_of false escapes) (get (codes "Resource") d) (get (codes "NotResource") d)

-- what the statement stands for
abbrev pub statement_of : Bool → Data → Statement
statement_of escapes d = record {
  allow = has_effect_allow d;
  principal = who_of d;
  action = actions_of d;
  resource = resources_of escapes d;
  conditions = conditions_of escapes (get (codes "Condition") d);
}

-- what readers of a statement's effect, principals, actions and resources answer, and what a reader of statements does
abbrev pub IsEffectRead : Location → Data → Result Bool PolicyAnswer → Type 0
IsEffectRead location d = IsReadOf (effect_checks location d) (has_effect_allow d)

abbrev pub IsWhoRead : Location → Data → Result (Option (Matcher Entry)) PolicyAnswer → Type 0
IsWhoRead location d = IsReadOf (who_checks location d) (who_of d)

abbrev pub IsActionRead : Location → Data → Result (Matcher (List Piece)) PolicyAnswer → Type 0
IsActionRead location d = IsReadOf (action_checks location d) (actions_of d)

abbrev pub IsResourceRead : Location → Bool → Data → Result (Option (Matcher (List Piece))) PolicyAnswer → Type 0
IsResourceRead location escapes d = IsReadOf (resource_checks location escapes d) (resources_of escapes d)

abbrev pub IsStatementRead : Location → ℕ → Bool → Data → Result Statement PolicyAnswer → Type 0
IsStatementRead location in_set escapes d = IsReadOf (statement_checks location in_set escapes d) (statement_of escapes d)
