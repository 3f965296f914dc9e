use Rattle.std.proofs.Common.{◌≡◌, drop, map}
use Rattle.std.specs.List.{list_all}
use Rattle.serde_json.specs.View.{view}
use Rattle.trust_zones.specs.ZoneFiles.{has_form_of, string_of}
use Rattle.trust_zones.proofs.file.are_of_form.Given as goal

abbrev pub invariant-loop-value : goal.invariant-loop-value
invariant-loop-value l = list_all (has_form_of l.list) (map string_of (map view (drop l.value-index l.values))) ≡ list_all (has_form_of l.list) (map string_of (map view l.values))
