-- Checks of a request file, each with its fault.
use Rattle.std.specs.Prelude.{ℕ, List, Bool, chars}
use Rattle.json_shapes.specs.Checks.{Check}
use Rattle.request_json.specs.declared.fault.RequestCode.{RequestCode}
use Rattle.request_json.specs.declared.fault.RequestFault.{RequestFault}
use Rattle.json_shapes.specs.declared.read_error.ReadError.{ReadError}

-- the fault of this code at a name of the file, or at the empty name where it is the file as a whole
abbrev pub request_fault : RequestCode → List ℕ → RequestFault
request_fault code name = record { code = code; element = chars name }

abbrev pub RequestCheck : Type 0
RequestCheck = Check RequestFault

-- the question has the answer yes, or else there is this fault
abbrev pub request_check : Bool → RequestCode → List ℕ → RequestCheck
request_check passes code name = record { passes = passes; fault = request_fault code name }

-- what stands instead of a request
abbrev pub RequestAnswer : Type 0
RequestAnswer = ReadError RequestFault
