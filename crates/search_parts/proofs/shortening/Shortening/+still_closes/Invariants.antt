use Rattle.std.proofs.Common.{◌+◌, ◌*◌}
use Rattle.refute_check.specs.Proofs.{proof_of, size}
use Rattle.search_parts.proofs.shortening.Shortening.+still_closes.Given as goal

abbrev pub decreases-still_closes : goal.decreases-still_closes
decreases-still_closes l = 2 * size (proof_of l.part.now)

abbrev pub decreases-sides : goal.decreases-sides
decreases-sides l = 2 * (size (proof_of l.yes.now) + size (proof_of l.no.now)) + 1

abbrev pub decreases-side : goal.decreases-side
decreases-side l = 2 * size (proof_of l.side.now) + 1
