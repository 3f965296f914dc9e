use Rattle.serde_json.specs.View.{members_view}
use Rattle.json_shapes.specs.Json.{pairs_of}
use Rattle.request_json.proofs.Apart.{ApartSoFar}
use Rattle.request_json.proofs.shape.are_apart.Given as goal

abbrev pub invariant-loop-name : goal.invariant-loop-name
invariant-loop-name l = record {
  can_next : (goal.iterator-loop-name).can_next l.name-iterator;
  is_finite : (goal.iterator-loop-name).is_finite l.name-iterator;
  apart : ApartSoFar (pairs_of (members_view l.keys.entries)) (pairs_of (members_view l.name-iterator)) l.seen;
}
