-- Checks of a zone file, each with its fault.
use Rattle.std.specs.Prelude.{ℕ, List, Bool, chars}
use Rattle.json_shapes.specs.Checks.{Check}
use Rattle.json_shapes.specs.declared.read_error.ReadError.{ReadError}
use Rattle.trust_zones.specs.declared.fault.ZoneCode.{ZoneCode}
use Rattle.trust_zones.specs.declared.fault.ZoneFault.{ZoneFault}

-- the fault of this code at a list of the file, or at the empty name where it is the file as a whole
abbrev pub zone_fault : ZoneCode → List ℕ → ZoneFault
zone_fault code name = record { code = code; element = chars name }

abbrev pub ZoneCheck : Type 0
ZoneCheck = Check ZoneFault

-- the question has the answer yes, or else there is this fault
abbrev pub zone_check : Bool → ZoneCode → List ℕ → ZoneCheck
zone_check passes code name = record { passes = passes; fault = zone_fault code name }

-- what stands instead of a zone
abbrev pub ZoneAnswer : Type 0
ZoneAnswer = ReadError ZoneFault
