use Rattle.std.proofs.Common.{◌∙◌}
use Rattle.wildcard_lang.proofs.Refusing.{place_moves}
use Rattle.wildcard_lang.proofs.runs.moved_place.Goals as goal

pub returns : goal.returns
returns g c x t at = c.next_text.ensures ∙ place_moves _ x t _ at
