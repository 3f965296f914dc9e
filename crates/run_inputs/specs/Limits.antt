-- The limits of files, in numbers.
use Rattle.std.specs.Prelude.{◌≡◌}
use Rattle.run_inputs.specs.declared.files.TheConstants.{MOST_BYTES}

-- a file of a set, of a schema, of a request or of a zone has at most 1,048,576 bytes
abbrev pub FileLimits : Type 0
FileLimits = MOST_BYTES ≡ 1048576
