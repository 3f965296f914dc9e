-- The shapes of values.
use Rattle.std.specs.Prelude.{ℕ, List, Bool, true, false, ◌||◌, ◌&&◌, map, Option, Some, None}
use Rattle.std.specs.Borrow.{Bor}
use Rattle.std.specs.List.{list_any, list_all}
use Rattle.std.specs.Str.{bytes_eq}
use Rattle.serde_json.specs.Data.{Data, null, boolean, number, string, array, object}
use Rattle.json_shapes.specs.Json.{one_or_more, pairs_in}

abbrev pub is_string : Data → Bool
is_string null = false
is_string (boolean b) = false
is_string (number x) = false
is_string (string s) = true
is_string (array ds) = false
is_string (object ms) = false

abbrev pub is_list : Data → Bool
is_list null = false
is_list (boolean b) = false
is_list (number x) = false
is_list (string s) = false
is_list (array ds) = true
is_list (object ms) = false

abbrev pub is_object : Data → Bool
is_object null = false
is_object (boolean b) = false
is_object (number x) = false
is_object (string s) = false
is_object (array ds) = false
is_object (object ms) = true

abbrev pub is_object_or_list : Data → Bool
is_object_or_list d = is_object d || is_list d

-- the value is this string
abbrev pub is_text : List ℕ → Data → Bool
is_text text null = false
is_text text (boolean b) = false
is_text text (number x) = false
is_text text (string s) = bytes_eq s text
is_text text (array ds) = false
is_text text (object ms) = false

-- the value is a string or a list of strings
abbrev pub are_strings : Data → Bool
are_strings d = list_all is_string (one_or_more d)

-- an element that may be left out passes the test
abbrev pub where_there : {X : Type 0} → (X → Bool) → Option X → Bool
where_there test None = true
where_there test (Some x) = test x

-- an element that must be there passes the test
abbrev pub is_there_and : {X : Type 0} → (X → Bool) → Option X → Bool
is_there_and test None = false
is_there_and test (Some x) = test x

-- the texts of names
abbrev pub texts : List (Bor (List ℕ)) → List (List ℕ)
texts names = map (λ name. name.now) names

-- the name is one of these
abbrev pub is_among : List (List ℕ) → List ℕ → Bool
is_among names name = list_any (bytes_eq name) names

-- the value is an object whose names are among these
abbrev pub is_object_of : List (List ℕ) → Data → Bool
is_object_of names d = is_object d && list_all (λ pair. is_among names pair.0) (pairs_in d)

-- the value's members are strings
abbrev pub has_strings : Data → Bool
has_strings d = list_all (λ pair. is_string pair.1) (pairs_in d)
