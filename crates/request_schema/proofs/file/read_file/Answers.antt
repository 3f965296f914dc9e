use Rattle.std.proofs.Common.{[], ◌++◌, refl, ◌∙◌}
use Rattle.std.specs.List.{flat_map}
use Rattle.json_shapes.proofs.Laws.{first_fault-rest, passed_two, refused, refused_last}
use Rattle.serde_json.specs.View.{view}
use Rattle.request_schema.specs.SchemaFiles.{keys_in, schema_checks, schema_of}
use Rattle.request_schema.specs.SchemaHeads.{file_checks, is_second, word_names}
use Rattle.request_schema.specs.SchemaRules.{keys_checks}
use Rattle.request_schema.specs.SchemaWords.{word_checks}
use Rattle.request_schema.proofs.Files.{keys-pass, keys-refuse, whole-schema}
use Rattle.request_schema.proofs.file.read_file.Goals as goal

pub returns-in_err-check_file-clause-read : goal.returns-in_err-check_file-clause-read
unfolding schema_checks
returns-in_err-check_file-clause-read c =
    let d = view c.args.file.now in
    refused (schema_checks d) (file_checks d) (keys_checks (is_second d) [] (keys_in d) ++ flat_map (word_checks d) word_names) (schema_of d) _ _ refl c.in_err-check_file.ensures c.from_residual.ensures.1

pub returns-in_err-keys-clause-read : goal.returns-in_err-keys-clause-read
unfolding schema_checks
returns-in_err-keys-clause-read c =
    let d = view c.args.file.now in
    let words = flat_map (word_checks d) word_names in
    let same = first_fault-rest (file_checks d) (keys_checks (is_second d) [] (keys_in d) ++ words) c.in_ok-check_file.ensures.0 in
    let is = keys-refuse c.is_second-second.result d _ c.is_second-second.ensures c.in_err-keys.ensures.read in
    refused (schema_checks d) (keys_checks (is_second d) [] (keys_in d)) words (schema_of d) _ _ same is c.from_residual-in_err-keys.ensures.1

pub returns-in_err-shapes-clause-read : goal.returns-in_err-shapes-clause-read
unfolding schema_checks
returns-in_err-shapes-clause-read c =
    let d = view c.args.file.now in
    let words = flat_map (word_checks d) word_names in
    let pass = keys-pass c.is_second-second.result d c.is_second-second.ensures c.in_ok-keys.ensures.read.0 in
    let same = passed_two (file_checks d) (keys_checks (is_second d) [] (keys_in d)) words c.in_ok-check_file.ensures.0 pass in
    refused_last (schema_checks d) words (schema_of d) _ _ same c.in_err-shapes.ensures.read c.from_residual-in_err-shapes.ensures.1

pub returns-clause-read : goal.returns-clause-read
unfolding schema_checks
returns-clause-read c =
    let d = view c.args.file.now in
    let words = flat_map (word_checks d) word_names in
    let pass = keys-pass c.is_second-second.result d c.is_second-second.ensures c.in_ok-keys.ensures.read.0 in (
      passed_two (file_checks d) (keys_checks (is_second d) [] (keys_in d)) words c.in_ok-check_file.ensures.0 pass ∙ c.in_ok-shapes.ensures.read.0,
      whole-schema c.is_second-second.result d _ _ _ c.is_second-second.ensures c.version_number.ensures c.in_ok-keys.ensures.read.1 c.in_ok-shapes.ensures.read.1,
    )
