-- Schema files: this project's own form. What is checked of a file, in this order, and the schema that it stands for.
use Rattle.std.specs.Prelude.{◌≡◌, ⊤, ℕ, List, [], ◌++◌, Option, Some, None, Result, Ok, Err, option_map, unwrap_or, codes, if◌then◌else◌}
use Rattle.std.specs.List.{flat_map}
use Rattle.serde_json.specs.Data.{Data}
use Rattle.serde_json.specs.Find.{get}
use Rattle.policy_model.specs.declared.schema.Schema.{Schema}
use Rattle.json_shapes.specs.Checks.{first_fault}
use Rattle.json_shapes.specs.Json.{json_of, pairs_in}
use Rattle.request_schema.specs.BuiltIn.{built_in_rules, with_rules}
use Rattle.request_schema.specs.SchemaChecks.{SchemaCheck, schema_fault, SchemaAnswer}
use Rattle.request_schema.specs.SchemaHeads.{file_checks, is_second, word_names}
use Rattle.request_schema.specs.SchemaRules.{keys_checks, rules_of}
use Rattle.request_schema.specs.SchemaWords.{shapes_in, word_checks}
use Rattle.request_schema.specs.declared.schema_fault.SchemaCode.TheVariants.{S1NotJson}
use Rattle.request_schema.specs.declared.schema_fault.SchemaFault.{SchemaFault}
use Rattle.json_shapes.specs.declared.read_error.ReadError.TheVariants.{Refused, NoMemory}

-- the keys of a file as written, in the order of their names
abbrev pub keys_in : Data → List (List ℕ × Data)
keys_in d = unwrap_or (option_map pairs_in (get (codes "Keys") d)) []

-- first the file as a whole, then its keys in the order of their names as written, then the shapes of words in the order of theirs
unfoldable pub schema_checks : Data → List SchemaCheck
schema_checks d =
    file_checks d ++ (keys_checks (is_second d) [] (keys_in d) ++ flat_map (word_checks d) word_names)

-- the file's keys are put in place of built-in ones of the same folded name
unfoldable pub schema_of : Data → Schema
schema_of d = record {
  version = (if is_second d then 2 else 1);
  keys = with_rules built_in_rules (rules_of (keys_in d));
  shapes = shapes_in d;
}

-- the schema that a file stands for, or its first fault
abbrev pub schema_or : Schema → Option SchemaFault → Result Schema SchemaFault
schema_or schema None = Ok schema
schema_or schema (Some fault) = Err fault

abbrev pub schema_read : Option Data → Result Schema SchemaFault
schema_read None = Err (schema_fault S1NotJson [])
schema_read (Some d) = schema_or (schema_of d) (first_fault (schema_checks d))

abbrev pub schema_from : List ℕ → Result Schema SchemaFault
schema_from bytes = schema_read (json_of bytes)

-- what a reader of files answers: the schema, or the first fault, besides want of memory
abbrev pub IsSchemaFrom : List ℕ → Result Schema SchemaAnswer → Type 0
IsSchemaFrom bytes (Ok schema) = schema_from bytes ≡ Ok schema
IsSchemaFrom bytes (Err (Refused fault)) = schema_from bytes ≡ Err fault
IsSchemaFrom bytes (Err NoMemory) = ⊤
