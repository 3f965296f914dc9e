use Rattle.std.proofs.Common.{take}
use Rattle.policy_compile.specs.Building.{Added}
use Rattle.policy_compile.specs.Sets.{statement_plans}
use Rattle.policy_compile.proofs.sets.add_statements.Given as goal

-- the nodes of the items so far are added
abbrev pub invariant-loop-item : goal.invariant-loop-item
invariant-loop-item l = Added l.initial.builder l.builder (statement_plans l.schema l.allow (take l.item-index l.items)) l.initial.indices l.indices
