use Rattle.std.proofs.Common.{◌≡◌}
use Rattle.serde_json.specs.Data.{object}
use Rattle.serde_json.specs.View.{view, members_view}
use Rattle.json_shapes.specs.Shapes.{has_strings}
use Rattle.json_shapes.proofs.objects.has_strings.Given as goal

abbrev pub invariant-loop-member : goal.invariant-loop-member
invariant-loop-member l = record {
  can_next : (goal.iterator-loop-member).can_next l.member-iterator;
  is_finite : (goal.iterator-loop-member).is_finite l.member-iterator;
  rest : has_strings (view l.value) ≡ has_strings (object (members_view l.member-iterator));
}
