use Rattle.std.proofs.Common.{◌≡◌, rules}
use Rattle.wildcard_lang.specs.Writing.{action_form}
use Rattle.wildcard_lang.proofs.Written.{IsText-action}
use Rattle.wildcard_lang.proofs.writing.write_action.Goals as goal

pub from_chars-requires : goal.from_chars-requires
from_chars-requires c =
    let made : c.in_ok-chars.chars.items ≡ action_form c.args.pattern.now = search rules in
    rw made (IsText-action c.args.pattern.now c.as_slice.ensures.pattern.scalars)
