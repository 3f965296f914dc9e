use Rattle.std.proofs.Common.{◌≡◌, drop, map}
use Rattle.json_shapes.specs.Shapes.{is_among}
use Rattle.json_shapes.proofs.names.is_among.Given as goal

abbrev pub invariant-loop-known : goal.invariant-loop-known
invariant-loop-known l = is_among (map (λ n. n.now) (drop l.known-index l.names)) l.fn.name ≡ is_among (map (λ n. n.now) l.names) l.fn.name
