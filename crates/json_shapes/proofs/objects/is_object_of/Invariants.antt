use Rattle.std.proofs.Common.{◌≡◌, map}
use Rattle.serde_json.specs.Data.{object}
use Rattle.serde_json.specs.View.{view, members_view}
use Rattle.json_shapes.specs.Shapes.{is_object_of}
use Rattle.json_shapes.proofs.objects.is_object_of.Given as goal

abbrev pub invariant-loop-name : goal.invariant-loop-name
invariant-loop-name l = record {
  can_next : (goal.iterator-loop-name).can_next l.name-iterator;
  is_finite : (goal.iterator-loop-name).is_finite l.name-iterator;
  rest : is_object_of (map (λ n. n.now) l.names) (view l.value) ≡ is_object_of (map (λ n. n.now) l.names) (object (members_view l.name-iterator));
}
