use Rattle.std.proofs.Common.{◌≡◌, drop, map}
use Rattle.std.specs.List.{list_all}
use Rattle.serde_json.specs.View.{view}
use Rattle.request_schema.specs.SchemaRules.{is_short, string_in}
use Rattle.request_schema.proofs.rules.are_short.Given as goal

abbrev pub invariant-loop-value : goal.invariant-loop-value
invariant-loop-value l = list_all is_short (map string_in (map view (drop l.value-index l.values))) ≡ list_all is_short (map string_in (map view l.values))
