use Rattle.std.proofs.Common.{arith}
use Rattle.wildcard_lang.proofs.Refusing.{item_moves}
use Rattle.wildcard_lang.proofs.runs.moved_on.Goals as goal

pub returns-then-item-eq0 : goal.returns-then-item-eq0
returns-then-item-eq0 g c x t at =
    let last = c.moved_place-last_place.ensures x t at.0 in (last, c.moved_place-older_place.ensures x t at.1, last)

pub returns : goal.returns
returns g c x t at = (
  c.moved_place-last_place.ensures x t at.0,
  c.moved_place-older_place.ensures x t at.1,
  item_moves _ x t _ (omega (arith, c.if-item-eq0.false)) at.2,
)
