use Rattle.std.proofs.Common.{take}
use Rattle.std.specs.List.{flat_map}
use Rattle.policy_compile.specs.Building.{Added}
use Rattle.policy_compile.specs.Conditions.{null_plans}
use Rattle.policy_compile.proofs.conditions.add_nulls.Given as goal

-- the nodes of the items so far are added
abbrev pub invariant-loop-truth : goal.invariant-loop-truth
invariant-loop-truth l = Added l.initial.builder l.builder (flat_map (null_plans l.condition) (take l.truth-index l.truth-items)) l.initial.indices l.indices
