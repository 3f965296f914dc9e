-- Documents (IAM JSON policy reference, Version, Id and Statement): what is checked of one, in this order, and what it stands
-- for.
use Rattle.std.specs.Prelude.{ℕ, ◌+◌, List, [], ◌∷◌, ◌++◌, map, Bool, ◌||◌, nat_le, Option, Some, None, Result, codes}
use Rattle.serde_json.specs.Data.{Data}
use Rattle.serde_json.specs.Find.{get}
use Rattle.policy_model.specs.declared.set.Document.{Document}
use Rattle.policy_json.specs.declared.fault.PolicyCode.TheVariants.{P2SetShape, P4WrongShape, P5MissingElement, P7BadVersion, P17Limit}
use Rattle.policy_json.specs.declared.location.Location.{Location}
use Rattle.policy_model.specs.declared.set.Statement.{Statement}
use Rattle.policy_json.specs.Checks.{PolicyCheck, check, name_checks, PolicyAnswer}
use Rattle.json_shapes.specs.Json.{has_name, one_or_more}
use Rattle.json_shapes.specs.Shapes.{is_object, is_object_or_list, is_string, is_text, is_there_and, where_there}
use Rattle.policy_json.specs.Statements.{statement_checks, statement_of}
use Rattle.policy_json.specs.declared.document.TheConstants.{MOST_DOCUMENTS}
use Rattle.json_shapes.specs.Checks.{IsReadOf}

-- the names that a document may have
abbrev pub document_names : List (List ℕ)
document_names = codes "Version" ∷ codes "Id" ∷ codes "Statement" ∷ []

-- it is the version in which `${` begins an escape or a policy variable
abbrev pub is_new_version : Data → Bool
is_new_version d = is_text (codes "2012-10-17") d

-- it is one of the two versions
abbrev pub is_version : Data → Bool
is_version d = is_new_version d || is_text (codes "2008-10-17") d

-- escapes are read exactly in a document of version 2012-10-17; one without a version is of version 2008-10-17
abbrev pub has_escapes : Data → Bool
has_escapes d = is_there_and is_new_version (get (codes "Version") d)

-- the statements of a document: one, or a list
abbrev pub statements_at : Option Data → List Data
statements_at None = []
statements_at (Some d) = one_or_more d

-- the statements of a document, or none where it has no such element
abbrev pub statements_in : Data → List Data
statements_in d = statements_at (get (codes "Statement") d)

-- it is one of the first 32 documents, and an object with known names
abbrev pub object_checks : Location → Data → List PolicyCheck
object_checks location d =
    check location (nat_le location.document MOST_DOCUMENTS) P17Limit [] ∷
    check location (is_object d) P2SetShape [] ∷
    name_checks location document_names d

-- its version and its id are as they must be, and it has statements
abbrev pub element_checks : Location → Data → List PolicyCheck
element_checks location d =
    check location (where_there is_string (get (codes "Version") d)) P4WrongShape (codes "Version") ∷
    check location (where_there is_version (get (codes "Version") d)) P7BadVersion (codes "Version") ∷
    check location (where_there is_string (get (codes "Id") d)) P4WrongShape (codes "Id") ∷
    check location (has_name (codes "Statement") d) P5MissingElement (codes "Statement") ∷
    check location (is_there_and is_object_or_list (get (codes "Statement") d)) P4WrongShape (codes "Statement") ∷ []

abbrev pub head_checks : Location → Data → List PolicyCheck
head_checks location d = object_checks location d ++ element_checks location d

-- statements are numbered in their document and in their set, in both from these numbers on
abbrev pub numbered_checks : ℕ → ℕ → ℕ → Bool → List Data → List PolicyCheck
numbered_checks document statement in_set escapes [] = []
numbered_checks document statement in_set escapes (d ∷ ds) =
    statement_checks (record { document = document; statement = statement }) in_set escapes d
    ++ numbered_checks document (statement + 1) (in_set + 1) escapes ds

-- all checks of the document of this number, before which this many statements stand in the set
abbrev pub document_checks : ℕ → ℕ → Data → List PolicyCheck
document_checks number before d =
    head_checks (record { document = number; statement = 0 }) d
    ++ numbered_checks number 1 (before + 1) (has_escapes d) (statements_in d)

-- what the document stands for
abbrev pub document_of : Data → Document
document_of d = record { statements = map (statement_of (has_escapes d)) (statements_in d) }

-- what a reader of a document's statements answers, and what a reader of documents does
abbrev pub AreStatementsRead : ℕ → ℕ → Bool → List Data → Result (List Statement) PolicyAnswer → Type 0
AreStatementsRead document before escapes ds =
    IsReadOf (numbered_checks document 1 (before + 1) escapes ds) (map (statement_of escapes) ds)

abbrev pub IsDocumentRead : ℕ → ℕ → Data → Result Document PolicyAnswer → Type 0
IsDocumentRead number before d = IsReadOf (document_checks number before d) (document_of d)
