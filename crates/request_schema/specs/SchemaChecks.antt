-- Checks of a schema file, each with its fault.
use Rattle.std.specs.Prelude.{ℕ, List, Bool, chars}
use Rattle.json_shapes.specs.Checks.{Check}
use Rattle.request_schema.specs.declared.schema_fault.SchemaCode.{SchemaCode}
use Rattle.request_schema.specs.declared.schema_fault.SchemaFault.{SchemaFault}
use Rattle.json_shapes.specs.declared.read_error.ReadError.{ReadError}

-- the fault of this code at a name of the file, or at the empty name where it is the file as a whole
abbrev pub schema_fault : SchemaCode → List ℕ → SchemaFault
schema_fault code name = record { code = code; element = chars name }

abbrev pub SchemaCheck : Type 0
SchemaCheck = Check SchemaFault

-- the question has the answer yes, or else there is this fault
abbrev pub schema_check : Bool → SchemaCode → List ℕ → SchemaCheck
schema_check passes code name = record { passes = passes; fault = schema_fault code name }

-- what stands instead of a schema
abbrev pub SchemaAnswer : Type 0
SchemaAnswer = ReadError SchemaFault
