-- Checks of a set's file, each with the fault that it gives where it isn't passed.
use Rattle.std.specs.Prelude.{ℕ, List, map, Bool}
use Rattle.std.specs.Str.{chars}
use Rattle.serde_json.specs.Data.{Data}
use Rattle.json_shapes.specs.Checks.{Check}
use Rattle.json_shapes.specs.Json.{pairs_in}
use Rattle.json_shapes.specs.Shapes.{is_among}
use Rattle.policy_json.specs.declared.location.Location.{Location}
use Rattle.policy_json.specs.declared.fault.PolicyFault.{PolicyFault}
use Rattle.policy_json.specs.declared.fault.PolicyCode.{PolicyCode}
use Rattle.policy_json.specs.declared.fault.PolicyCode.TheVariants.{P3UnknownElement}
use Rattle.json_shapes.specs.declared.read_error.ReadError.{ReadError}

-- a check of a set's file
abbrev pub PolicyCheck : Type 0
PolicyCheck = Check PolicyFault

-- the fault of this code at the location, in the element of this name
abbrev pub fault_at : Location → PolicyCode → List ℕ → PolicyFault
fault_at location code name = record {
  code = code;
  document = location.document;
  statement = location.statement;
  element = chars name;
}

-- the question has the answer yes, or else there is this fault at the location, in the element of this name
abbrev pub check : Location → Bool → PolicyCode → List ℕ → PolicyCheck
check location passes code name = record { passes = passes; fault = fault_at location code name }

-- each name of the object, in their order, is one of these
abbrev pub name_checks : Location → List (List ℕ) → Data → List PolicyCheck
name_checks location names d = map (λ pair. check location (is_among names pair.0) P3UnknownElement pair.0) (pairs_in d)

-- what stands instead of a set
abbrev pub PolicyAnswer : Type 0
PolicyAnswer = ReadError PolicyFault
