use Rattle.std.proofs.Common.{◌≡◌, ◌++◌, drop, map}
use Rattle.request_schema.specs.Uses.{use_of, uses_found}
use Rattle.request_schema.proofs.found.add_conditions.Given as goal

abbrev pub invariant-loop-condition : goal.invariant-loop-condition
invariant-loop-condition l = uses_found l.uses.items ++ map (use_of l.second l.name) (drop l.condition-index l.conditions) ≡ uses_found l.fn.uses.items ++ map (use_of l.second l.name) l.conditions
