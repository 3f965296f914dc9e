use Rattle.std.proofs.Common.{◌≡◌, map, take}
use Rattle.serde_json.specs.Data.{string}
use Rattle.serde_json.specs.View.{view}
use Rattle.findings.specs.Texts.{predicate_texts}
use Rattle.findings.proofs.text.finding_json.Given as goal

abbrev pub invariant-dimensions : goal.invariant-dimensions
invariant-dimensions l = map view l.texts.items ≡ map string (predicate_texts (take l.i l.strata.dimensions) (take l.i l.finding))
