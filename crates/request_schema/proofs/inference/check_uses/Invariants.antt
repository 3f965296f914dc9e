use Rattle.std.proofs.Common.{◌≡◌, drop}
use Rattle.std.specs.List.{flat_map}
use Rattle.json_shapes.specs.Checks.{first_fault}
use Rattle.request_schema.specs.KeyUses.{checks_by}
use Rattle.request_schema.specs.Uses.{uses_found}
use Rattle.request_schema.proofs.inference.check_uses.Given as goal

abbrev pub invariant-loop-found : goal.invariant-loop-found
invariant-loop-found l = first_fault (flat_map (checks_by l.named l.table) (uses_found l.uses)) ≡ first_fault (flat_map (checks_by l.named l.table) (uses_found (drop l.found-index l.uses)))
