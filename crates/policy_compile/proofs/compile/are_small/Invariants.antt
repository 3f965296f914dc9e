use Rattle.std.proofs.Common.{◌≡◌, ◌+◌, take}
use Rattle.std.specs.Prelude.{sum_by}
use Rattle.policy_compile.specs.declared.compile.TheConstants.{MOST_PIECES}
use Rattle.policy_compile.specs.Queries.{test_pieces}
use Rattle.policy_compile.proofs.compile.are_small.Given as goal

-- the room that is left beside the pieces so far
abbrev pub invariant-loop-test : goal.invariant-loop-test
invariant-loop-test l = l.room + sum_by test_pieces (take l.test-index l.tests) ≡ MOST_PIECES
