-- What is printed of a zone file that stands for no zone.
use Rattle.std.specs.Prelude.{◌≡◌, ℕ, List, ◌++◌, codes, Ok, Err}
use Rattle.policy_model.specs.declared.schema.Schema.{Schema}
use Rattle.run_inputs.specs.declared.printed.Printed.{Printed}
use Rattle.run_inputs.specs.declared.status.Status.TheVariants.{Refused}
use Rattle.run_inputs.specs.Printing.{PrintsText}
use Rattle.run_inputs.specs.Parts.{element_text}
use Rattle.trust_zones.specs.declared.fault.ZoneCode.{ZoneCode}
use Rattle.trust_zones.specs.declared.fault.ZoneCode.TheVariants.{Z1NotJson, Z2Shape, Z3BadValue, Z4KeyKind, Z5Limit}
use Rattle.trust_zones.specs.declared.fault.ZoneFault.{ZoneFault}
use Rattle.trust_zones.specs.declared.zone.Zone.{Zone}
use Rattle.trust_zones.specs.ZoneFiles.{zone_from}

abbrev pub zone_word : ZoneCode → List ℕ
zone_word Z1NotJson = codes "Z1 NotJson"
zone_word Z2Shape = codes "Z2 Shape"
zone_word Z3BadValue = codes "Z3 BadValue"
zone_word Z4KeyKind = codes "Z4 KeyKind"
zone_word Z5Limit = codes "Z5 Limit"

-- a fault of a zone file with its element
unfoldable pub zone_text : ZoneFault → List ℕ
zone_text fault = zone_word fault.code ++ codes ": " ++ element_text fault.element

-- the line of a zone file that is refused
unfoldable pub zone_line : ZoneFault → List ℕ
zone_line fault = codes "refused: zone: " ++ zone_text fault ++ codes "\n"

-- the first fault of the file, under the schema of the run, is printed
pub record IsZoneRefused (schema : Schema) (bytes : List ℕ) (p : Printed) : Type 0 where
  pub fault : ZoneFault
  pub first : zone_from schema bytes ≡ Err fault
  pub prints : PrintsText (zone_line fault) Refused p

-- under the schema of the run the file stands for a zone that satisfies P
pub record OfZone (schema : Schema) (bytes : List ℕ) (P : Zone → Type 0) : Type 0 where
  pub zone : Zone
  pub stands : zone_from schema bytes ≡ Ok zone
  pub holds : P zone
