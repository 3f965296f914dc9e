-- Schema files as wholes, in two versions: this project's own form.
use Rattle.std.specs.Prelude.{ℕ, List, [], ◌∷◌, Bool, ◌&&◌, ◌||◌, ◌==◌, option_and_then, codes, if◌then◌else◌}
use Rattle.serde_json.specs.Data.{Data}
use Rattle.serde_json.specs.Find.{as_number, as_u64, get}
use Rattle.json_shapes.specs.Shapes.{has_strings, is_object, is_object_of, is_there_and, where_there}
use Rattle.request_schema.specs.declared.schema_fault.SchemaCode.TheVariants.{S2Shape}
use Rattle.request_schema.specs.SchemaChecks.{SchemaCheck, schema_check}

-- the value is this whole number, written without a point, an exponent or a sign
abbrev pub is_whole : ℕ → Data → Bool
is_whole n d = is_there_and (λ m. m == n) (option_and_then as_u64 (as_number d))

-- the file is of version 2; any other that is read is of version 1
abbrev pub is_second : Data → Bool
is_second d = is_there_and (is_whole 2) (get (codes "Version") d)

abbrev pub is_schema_version : Data → Bool
is_schema_version d = is_whole 1 d || is_whole 2 d

-- the names that a file may have
abbrev pub file_names : Bool → List (List ℕ)
file_names second =
    (if second then codes "Version" ∷ codes "Keys" ∷ codes "Shapes" ∷ [] else codes "Version" ∷ codes "Keys" ∷ [])

-- the words that may have a shape, in the order of their names' bytes
abbrev pub word_names : List (List ℕ)
word_names =
    codes "AWS" ∷ codes "Action" ∷ codes "CanonicalUser" ∷ codes "Federated" ∷ codes "Resource" ∷ codes "Service" ∷ []

-- the shapes of words: an object of known names, each with a string
abbrev pub are_word_shapes : Data → Bool
are_word_shapes d = is_object_of word_names d && has_strings d

-- the file is an object of known names, with a version, keys, and in version 2 shapes, all of their forms
abbrev pub file_checks : Data → List SchemaCheck
file_checks d =
    schema_check (is_object_of (file_names (is_second d)) d) S2Shape [] ∷
    schema_check (is_there_and is_schema_version (get (codes "Version") d)) S2Shape [] ∷
    schema_check (is_there_and is_object (get (codes "Keys") d)) S2Shape [] ∷
    schema_check (where_there are_word_shapes (get (codes "Shapes") d)) S2Shape [] ∷ []
