use Rattle.std.proofs.Common.{◌+◌, ◌*◌}
use Rattle.refute_check.specs.Proofs.{proof_of, size}
use Rattle.refute_check.proofs.verdict.Checking.+walk.Given as goal

abbrev pub decreases-walk : goal.decreases-walk
decreases-walk l = 2 * size (proof_of l.part.now)

abbrev pub decreases-walk_sides : goal.decreases-walk_sides
decreases-walk_sides l = 2 * (size (proof_of l.yes.now) + size (proof_of l.no.now)) + 1

abbrev pub decreases-walk_side : goal.decreases-walk_side
decreases-walk_side l = 2 * size (proof_of l.side.now) + 1

abbrev pub decreases-walk_label : goal.decreases-walk_label
decreases-walk_label l = 2 * size (proof_of l.inner.now) + 1
