use Rattle.std.proofs.Common.{◌≡◌}
use Rattle.serde_json.specs.Data.{object}
use Rattle.serde_json.specs.View.{view, members_view}
use Rattle.trust_zones.specs.ZoneFiles.{is_zone_file}
use Rattle.trust_zones.proofs.file.is_zone_file.Given as goal

abbrev pub invariant-loop-name : goal.invariant-loop-name
invariant-loop-name l = record {
  can_next : (goal.iterator-loop-name).can_next l.name-iterator;
  is_finite : (goal.iterator-loop-name).is_finite l.name-iterator;
  rest : is_zone_file (view l.file) ≡ is_zone_file (object (members_view l.name-iterator));
}
