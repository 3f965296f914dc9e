use Rattle.std.proofs.Common.{map, ap, ◌∙◌}
use Rattle.serde_json.specs.View.{view}
use Rattle.json_shapes.proofs.Finding.{one_or_more-values}
use Rattle.json_shapes.proofs.elements.members.Goals as goal

pub returns-in-Some : goal.returns-in-Some
returns-in-Some c =
    ap (map view) c.as_slice.ensures.value ∙ one_or_more-values (view c.args.value.now) c.in-Some.values.now.items c.in-Some.ensures
