-- Looking into JSON values (RFC 8259): an object has each name once, in the order of the names by their bytes. Of a name that
-- stands twice in the text the last value counts.
use Rattle.std.specs.Prelude.{ℕ, List, [], ◌∷◌, map, Bool, Option, Some, None, is_some, unwrap_or, if◌then◌else◌}
use Rattle.std.specs.Str.{chars, is_utf8}
use Rattle.serde_json.specs.Data.{Data, null, boolean, number, string, array, object, Items, no_items, item, Members, no_members, member}
use Rattle.serde_json.specs.Read.{read}
use Rattle.serde_json.specs.Find.{as_str, get}
use Rattle.serde_json.specs.View.{view}
use Rattle.serde_json.specs.declared.value.Value.{Value}

-- the value that `serde_json` reads from a file (nested at most 127 deep, numbers up to the greatest float), or none
abbrev pub json_of : List ℕ → Option Data
json_of bytes = (if is_utf8 bytes then read bytes else None)

-- the values of a list
abbrev pub values_of : Items → List Data
values_of no_items = []
values_of (item d ds) = d ∷ values_of ds

-- the members of an object, in the order of their names
abbrev pub pairs_of : Members → List (List ℕ × Data)
pairs_of no_members = []
pairs_of (member name d ms) = (name, d) ∷ pairs_of ms

-- the values of a list, or none of any other value
abbrev pub values_in : Data → List Data
values_in null = []
values_in (boolean b) = []
values_in (number x) = []
values_in (string s) = []
values_in (array ds) = values_of ds
values_in (object ms) = []

-- the members of an object, or none of any other value
abbrev pub pairs_in : Data → List (List ℕ × Data)
pairs_in null = []
pairs_in (boolean b) = []
pairs_in (number x) = []
pairs_in (string s) = []
pairs_in (array ds) = []
pairs_in (object ms) = pairs_of ms

-- where an element may be a list, a single value may stand without brackets
abbrev pub one_or_more : Data → List Data
one_or_more null = null ∷ []
one_or_more (boolean b) = boolean b ∷ []
one_or_more (number x) = number x ∷ []
one_or_more (string s) = string s ∷ []
one_or_more (array ds) = values_of ds
one_or_more (object ms) = object ms ∷ []

-- the values of the list that stands under a name, or none
abbrev pub list_under : Option Data → List Data
list_under None = []
list_under (Some d) = values_in d

-- the characters of a string, or none of any other value
abbrev pub text_of : Data → List ℕ
text_of d = chars (unwrap_or (as_str d) [])

-- the object has the name
abbrev pub has_name : List ℕ → Data → Bool
has_name name d = is_some (get name d)

-- values as they are read
abbrev pub views : List Value → List Data
views values = map view values
