use Rattle.std.proofs.Common.{◌∙◌, ap, map}
use Rattle.serde_json.specs.View.{view}
use Rattle.json_shapes.proofs.Finding.{values_in-list}
use Rattle.json_shapes.proofs.elements.values_in.Goals as goal

pub returns-in-Some : goal.returns-in-Some
returns-in-Some c = ap (map view) c.as_slice.ensures.value ∙ values_in-list _ _ c.in-Some.ensures
