use Rattle.std.proofs.Common.{◌≡◌, All, drop, fold}
use Rattle.serde_json.specs.View.{members_view}
use Rattle.policy_emit.specs.Emitted.{conditions_in}
use Rattle.policy_emit.specs.Kept.{ConditionIsKept}
use Rattle.policy_emit.specs.Written.{block_members, with_condition}
use Rattle.policy_emit.proofs.conditions.conditions_block.Given as goal

-- the conditions that are still to come complete the block, and where they are kept, all are
abbrev pub invariant-dimensions : goal.invariant-dimensions
invariant-dimensions l =
    let rest = conditions_in l.fn.schema (drop l.i l.fn.strata.dimensions) (drop l.i l.fn.finding) in
    let all = conditions_in l.fn.schema l.fn.strata.dimensions l.fn.finding in
    (fold with_condition (members_view l.block.entries) rest ≡ block_members all) × (All ConditionIsKept rest → All ConditionIsKept all)
