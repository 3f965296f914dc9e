use Rattle.wildcard_lang.proofs.Written.{IsText-all}
use Rattle.wildcard_lang.proofs.writing.write_pattern.Goals as goal

pub from_chars-requires : goal.from_chars-requires
from_chars-requires c =
    IsText-all c.args.pattern.now _ _ _ c.as_slice-piece-items.ensures.value c.as_slice-piece-items.ensures.pattern.scalars c.loop-piece.invariant c.loop-piece-test.false
