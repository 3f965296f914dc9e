use Rattle.pattern_automata.proofs.Scalars.{text-from_all}
use Rattle.pattern_automata.proofs.proposal.shortest.Goals as goal

pub from_chars-requires : goal.from_chars-requires
from_chars-requires c = text-from_all c.loop-piece.chars.items c.loop-piece.invariant
