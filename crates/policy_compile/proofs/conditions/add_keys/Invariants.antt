use Rattle.std.proofs.Common.{◌∷◌, [], take}
use Rattle.std.specs.List.{flat_map}
use Rattle.policy_compile.specs.Building.{Added}
use Rattle.policy_compile.specs.Conditions.{condition_plan}
use Rattle.policy_compile.proofs.conditions.add_keys.Given as goal

-- the nodes of the items so far are added
abbrev pub invariant-loop-item : goal.invariant-loop-item
invariant-loop-item l = Added l.initial.builder l.builder (flat_map (λ c. condition_plan l.schema c ∷ []) (take l.item-index l.group)) l.initial.indices l.indices
