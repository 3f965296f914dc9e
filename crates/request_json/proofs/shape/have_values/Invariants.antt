use Rattle.std.proofs.Common.{◌≡◌}
use Rattle.serde_json.specs.View.{members_view}
use Rattle.json_shapes.specs.Json.{pairs_of}
use Rattle.request_json.specs.RequestShapes.{have_values}
use Rattle.request_json.proofs.shape.have_values.Given as goal

abbrev pub invariant-loop-values : goal.invariant-loop-values
invariant-loop-values l = record {
  can_next : (goal.iterator-loop-values).can_next l.values-iterator;
  is_finite : (goal.iterator-loop-values).is_finite l.values-iterator;
  rest : have_values (pairs_of (members_view l.keys.entries)) ≡ have_values (pairs_of (members_view l.values-iterator));
}
