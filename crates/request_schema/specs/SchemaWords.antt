-- The shapes of words in a schema file: what is checked of each, and what they stand for.
use Rattle.std.specs.Prelude.{ℕ, List, [], ◌∷◌, length, Bool, true, false, nat_le, Option, option_map, option_and_then, chars, codes}
use Rattle.serde_json.specs.Data.{Data}
use Rattle.serde_json.specs.Find.{get}
use Rattle.wildcard_lang.specs.declared.piece.Piece.{Piece}
use Rattle.policy_model.specs.declared.schema.Shapes.{Shapes}
use Rattle.json_shapes.specs.Shapes.{where_there}
use Rattle.request_schema.specs.SchemaChecks.{SchemaCheck, schema_check}
use Rattle.request_schema.specs.SchemaRules.{is_short, shape_pieces, string_at}
use Rattle.request_schema.specs.declared.schema_fault.SchemaCode.TheVariants.{S6EmptyShape, S9Limit}

-- the text of a word's shape, where one is given
abbrev pub word_text : List ℕ → Data → Option (List ℕ)
word_text name d = option_and_then (string_at name) (get (codes "Shapes") d)

-- the shape of a word isn't empty, since no word is, and it is short
abbrev pub word_checks : Data → List ℕ → List SchemaCheck
word_checks d name =
    schema_check (where_there (λ s. nat_le 1 (length (chars s))) (word_text name d)) S6EmptyShape name ∷
    schema_check (where_there is_short (word_text name d)) S9Limit name ∷ []

-- the shape of a word, where one is given
abbrev pub word_shape : Bool → List ℕ → Data → Option (List Piece)
word_shape fold name d = option_map (shape_pieces fold) (word_text name d)

-- the shapes of all words: actions are compared without regard to the case of ASCII letters
abbrev pub shapes_in : Data → Shapes
shapes_in d = record {
  action = word_shape true (codes "Action") d;
  resource = word_shape false (codes "Resource") d;
  aws = word_shape false (codes "AWS") d;
  service = word_shape false (codes "Service") d;
  federated = word_shape false (codes "Federated") d;
  canonical_user = word_shape false (codes "CanonicalUser") d;
}
