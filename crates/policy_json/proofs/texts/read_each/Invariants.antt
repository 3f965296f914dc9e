use Rattle.std.proofs.Common.{[], map, unwrap_or, drop}
use Rattle.serde_json.specs.View.{view}
use Rattle.policy_json.specs.Texts.{pattern_checks, pieces_of}
use Rattle.json_shapes.proofs.Laws.{IsRead}
use Rattle.policy_json.proofs.texts.read_each.Given as goal

abbrev pub invariant-loop-value : goal.invariant-loop-value
invariant-loop-value l = IsRead (pattern_checks l.location l.name l.escapes) (map (λ d. unwrap_or (pieces_of l.fold l.escapes d) [])) [] (map view l.values) (map view (drop l.value-index l.values)) l.patterns
