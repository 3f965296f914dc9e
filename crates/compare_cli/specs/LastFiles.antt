-- The last file that a command's line has to name, and behind it that of a schema where one is named.
use Rattle.std.specs.Prelude.{ℕ, List, ◌∷◌, Option, option_map}
use Rattle.run_inputs.specs.declared.role.Role.{Role}
use Rattle.run_inputs.specs.declared.role.Role.TheVariants.{Schema as schema_file}
use Rattle.run_inputs.specs.Readings.{FileName, file, if_given, if_named}
use Rattle.compare_cli.specs.declared.files.LastFiles.{LastFiles}

-- the files, by their names
abbrev pub last_names : Role → List ℕ → Option (List ℕ) → List FileName
last_names role name schema = file role name ∷ if_named schema_file schema

-- their bytes
abbrev pub last_bytes : LastFiles → List (List ℕ)
last_bytes f = f.file.items ∷ if_given (option_map (λ b. b.items) f.schema)
