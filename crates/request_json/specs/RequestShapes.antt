-- The shape of a request file, whatever the schema: this project's own form. An object with the names `Principal`, `Action`, `Resource`
-- and, where there are keys, `Context`.
use Rattle.std.specs.Prelude.{ℕ, List, [], ◌∷◌, length, map, Bool, true, ◌&&◌, ◌==◌, not, option_map, unwrap_or, codes, bytes_eq, if◌then◌else◌}
use Rattle.std.specs.List.{list_all, list_any}
use Rattle.serde_json.specs.Data.{Data}
use Rattle.serde_json.specs.Find.{get}
use Rattle.policy_model.specs.declared.principal.PrincipalKind.{PrincipalKind}
use Rattle.policy_model.specs.declared.principal.PrincipalKind.TheVariants.{Aws, Service, Federated, CanonicalUser}
use Rattle.json_shapes.specs.Json.{pairs_in}
use Rattle.json_shapes.specs.Shapes.{are_strings, is_object, is_string, is_there_and, where_there, has_strings, is_object_of}
use Rattle.request_schema.specs.SchemaRules.{same_key}

-- the names of the kinds of principals
abbrev pub id_kinds : List (List ℕ)
id_kinds = codes "AWS" ∷ codes "CanonicalUser" ∷ codes "Federated" ∷ codes "Service" ∷ []

-- the kind of a name (of another name, which no check passes, `CanonicalUser`)
abbrev pub kind_of_name : List ℕ → PrincipalKind
kind_of_name name =
    (if bytes_eq name (codes "AWS") then Aws
    else (if bytes_eq name (codes "Service") then Service
    else (if bytes_eq name (codes "Federated") then Federated else CanonicalUser)))

-- one id, under the name of its kind
abbrev pub is_one_id : Data → Bool
is_one_id d = is_object_of id_kinds d && (has_strings d && (length (pairs_in d) == 1))

abbrev pub names_of : List (List ℕ × Data) → List (List ℕ)
names_of pairs = map (λ pair. pair.0) pairs

-- no two of the names are one key, and none is one of those before
abbrev pub are_apart : List (List ℕ) → List (List ℕ) → Bool
are_apart before [] = true
are_apart before (name ∷ names) = not (list_any (same_key name) before) && are_apart (name ∷ before) names

-- each of the keys has a string or a list of strings
abbrev pub have_values : List (List ℕ × Data) → Bool
have_values pairs = list_all (λ pair. are_strings pair.1) pairs

-- keys with their values, no two of which are one
abbrev pub is_context : Data → Bool
is_context d = is_object d && (have_values (pairs_in d) && are_apart [] (names_of (pairs_in d)))

-- the keys of a file as written, in the order of their names' bytes, each with its values
abbrev pub keys_of_request : Data → List (List ℕ × Data)
keys_of_request d = unwrap_or (option_map pairs_in (get (codes "Context") d)) []

abbrev pub request_names : List (List ℕ)
request_names = codes "Principal" ∷ codes "Action" ∷ codes "Resource" ∷ codes "Context" ∷ []

-- the words stand, each of its form
abbrev pub has_words : Data → Bool
has_words d =
    is_there_and is_one_id (get (codes "Principal") d)
    && (is_there_and is_string (get (codes "Action") d) && is_there_and is_string (get (codes "Resource") d))

-- the file is an object of known names, in which the words stand
abbrev pub has_form : Data → Bool
has_form d = is_object_of request_names d && has_words d

-- and its keys, where they are given, are of their form
abbrev pub is_request : Data → Bool
is_request d = has_form d && where_there is_context (get (codes "Context") d)
