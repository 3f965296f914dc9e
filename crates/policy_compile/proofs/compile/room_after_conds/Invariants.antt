use Rattle.std.proofs.Common.{◌≡◌, ◌+◌, take}
use Rattle.std.specs.Prelude.{sum_by}
use Rattle.policy_compile.specs.Queries.{cond_pieces}
use Rattle.policy_compile.proofs.compile.room_after_conds.Given as goal

-- what is left beside the pieces so far
abbrev pub invariant-loop-cond : goal.invariant-loop-cond
invariant-loop-cond l = l.left + sum_by cond_pieces (take l.cond-index l.conds) ≡ l.room
