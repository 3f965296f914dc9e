use Rattle.std.proofs.Common.{◌∷◌, [], take}
use Rattle.std.specs.List.{flat_map}
use Rattle.policy_compile.specs.Building.{Added}
use Rattle.policy_compile.specs.Conditions.{meets_plan}
use Rattle.policy_compile.proofs.conditions.add_meets.Given as goal

-- the nodes of the items so far are added
abbrev pub invariant-loop-operand : goal.invariant-loop-operand
invariant-loop-operand l = Added l.initial.builder l.builder (flat_map (λ o. meets_plan l.kind l.condition o ∷ []) (take l.operand-index l.operand-items)) l.initial.indices l.indices
