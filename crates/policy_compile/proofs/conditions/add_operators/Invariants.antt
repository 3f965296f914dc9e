use Rattle.std.proofs.Common.{◌≡◌, ◌++◌, ◌∷◌, [], List}
use Rattle.std.specs.List.{flat_map}
use Rattle.policy_model.specs.declared.operator.Condition.{Condition}
use Rattle.policy_compile.specs.Building.{Added}
use Rattle.policy_compile.specs.Conditions.{group_plan, operator_groups}
use Rattle.policy_compile.proofs.conditions.add_operators.Given as goal

-- the nodes of the groups so far are added, and the groups of what is left come behind them
abbrev pub invariant-loop-keys : goal.invariant-loop-keys
invariant-loop-keys l =
    (done : List (List Condition)) × Added l.initial.builder l.builder (flat_map (λ group. group_plan l.schema group ∷ []) done) l.initial.indices l.indices
    × (operator_groups l.conditions ≡ done ++ operator_groups l.keys-iterator.rest.now)
