-- Request files: this project's own form. What is checked of a file under a schema, in this order, and the request that it stands for.
use Rattle.std.specs.Prelude.{◌≡◌, ⊤, ℕ, List, [], ◌∷◌, ◌++◌, length, nat_le, Bool, ◌&&◌, Option, Some, None, unwrap_or, Result, Ok, Err, chars, codes}
use Rattle.serde_json.specs.Data.{Data, null}
use Rattle.serde_json.specs.Find.{get}
use Rattle.text_table.specs.Table.{Entries}
use Rattle.wildcard_lang.specs.declared.piece.Piece.{Piece}
use Rattle.policy_model.specs.declared.request.Request.{Request}
use Rattle.policy_model.specs.declared.schema.Schema.{Schema}
use Rattle.policy_model.specs.declared.schema.Shapes.{Shapes}
use Rattle.policy_model.specs.declared.value.Value.{Value}
use Rattle.policy_model.specs.Requests.{shape_of}
use Rattle.json_shapes.specs.Checks.{first_fault}
use Rattle.json_shapes.specs.Json.{json_of, pairs_in}
use Rattle.request_schema.specs.SchemaRules.{string_in}
use Rattle.request_json.specs.RequestChecks.{RequestCheck, request_check, request_fault, RequestAnswer}
use Rattle.request_json.specs.RequestKeys.{context_checks, context_from, fits_shape, required_checks}
use Rattle.request_json.specs.RequestShapes.{is_request, keys_of_request, kind_of_name}
use Rattle.request_json.specs.declared.fault.RequestCode.TheVariants.{Q1NotJson, Q2Shape, Q4NotValid}
use Rattle.request_json.specs.declared.fault.RequestFault.{RequestFault}
use Rattle.json_shapes.specs.declared.read_error.ReadError.TheVariants.{Refused, NoMemory}

-- ---- what a file stands for

-- the string under a name (where none stands, which no check passes, the empty one)
abbrev pub word_at : List ℕ → Data → List ℕ
word_at name d = string_in (unwrap_or (get name d) null)

-- the first of pairs, as a name and a string (of no pairs, which no check passes, empty ones)
abbrev pub first_pair : List (List ℕ × Data) → List ℕ × List ℕ
first_pair [] = ([], [])
first_pair (pair ∷ pairs) = (pair.0, string_in pair.1)

-- the name of the principal's kind, and its id
abbrev pub principal_named : Data → List ℕ × List ℕ
principal_named d = first_pair (pairs_in (unwrap_or (get (codes "Principal") d) null))

-- the file's words, with keys and their values
abbrev pub request_with : Data → Entries (List Value) → Request
request_with d context = record {
  kind = kind_of_name (principal_named d).0;
  id = chars (principal_named d).1;
  action = chars (word_at (codes "Action") d);
  resource = chars (word_at (codes "Resource") d);
  context = context;
}

-- the keys that a file gives values, those of the schema alone
abbrev pub context_of : Schema → Data → Entries (List Value)
context_of schema d = context_from schema.keys [] (keys_of_request d)

-- the request that a file stands for
abbrev pub request_of : Schema → Data → Request
request_of schema d = request_with d (context_of schema d)

-- ---- what is checked of it

-- a word isn't empty and matches its shape
abbrev pub is_word : Option (List Piece) → List ℕ → Bool
is_word shape t = nat_le 1 (length t) && fits_shape shape t

-- the words of a request, at their names in the file
abbrev pub word_checks_of : Shapes → Request → List RequestCheck
word_checks_of shapes r =
    request_check (is_word (shape_of shapes r.kind) r.id) Q4NotValid (codes "Principal") ∷
    request_check (is_word shapes.action r.action) Q4NotValid (codes "Action") ∷
    request_check (is_word shapes.resource r.resource) Q4NotValid (codes "Resource") ∷ []

-- the file's shape
abbrev pub whole_checks : Data → List RequestCheck
whole_checks d = request_check (is_request d) Q2Shape [] ∷ []

-- the file as a whole; its keys that the schema has, in the order of their names as written; keys that are required and missing, in
-- the order of their folded names; then the words
unfoldable pub request_checks : Schema → Data → List RequestCheck
request_checks schema d =
    whole_checks d ++ (context_checks schema.keys (keys_of_request d)
    ++ (required_checks schema.keys (context_of schema d) ++ word_checks_of schema.shapes (request_of schema d)))

-- the request that a file stands for under a schema, or its first fault
abbrev pub request_or : Request → Option RequestFault → Result Request RequestFault
request_or r None = Ok r
request_or r (Some fault) = Err fault

abbrev pub request_read : Schema → Option Data → Result Request RequestFault
request_read schema None = Err (request_fault Q1NotJson [])
request_read schema (Some d) = request_or (request_of schema d) (first_fault (request_checks schema d))

abbrev pub request_from : Schema → List ℕ → Result Request RequestFault
request_from schema bytes = request_read schema (json_of bytes)

-- what a reader of files answers: the request, or the first fault, besides want of memory
abbrev pub IsRequestFrom : Schema → List ℕ → Result Request RequestAnswer → Type 0
IsRequestFrom schema bytes (Ok r) = request_from schema bytes ≡ Ok r
IsRequestFrom schema bytes (Err (Refused fault)) = request_from schema bytes ≡ Err fault
IsRequestFrom schema bytes (Err NoMemory) = ⊤
