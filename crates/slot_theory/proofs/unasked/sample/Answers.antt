use Rattle.slot_theory.proofs.Sampling.{gathered-all, gathered-matches, gathered-more, gathered-text}
use Rattle.slot_theory.proofs.unasked.sample.Goals as goal

pub from_chars-requires : goal.from_chars-requires
from_chars-requires c =
    gathered-text c.args.pattern.now _ _ _ c.as_slice-piece-items.ensures.value c.as_slice-piece-items.ensures.pattern.scalars c.loop-piece.invariant c.loop-piece-test.false

pub returns-clause-matches : goal.returns-clause-matches
returns-clause-matches c =
    gathered-matches c.args.pattern.now _ _ _ _ c.as_slice-piece-items.ensures.value c.from_chars.ensures c.loop-piece.invariant c.loop-piece-test.false

pub loop-piece-init : goal.loop-piece-init
loop-piece-init c = c.new-chars.ensures.items

pub loop-piece-preserved : goal.loop-piece-preserved
loop-piece-preserved c =
    gathered-more c.args.pattern.now _ _ _ _ _ c.as_slice-piece-items.ensures.value c.loop-piece-test.true c.loop-piece.invariant c.in_ok-push_sampled.ensures

pub returns-clause-value : goal.returns-clause-value
returns-clause-value c =
    gathered-all c.args.pattern.now _ _ _ _ c.as_slice-piece-items.ensures.value c.from_chars.ensures c.loop-piece.invariant c.loop-piece-test.false

pub returns-clause-text : goal.returns-clause-text
returns-clause-text c =
    rw c.from_chars.ensures (gathered-text c.args.pattern.now _ _ _ c.as_slice-piece-items.ensures.value c.as_slice-piece-items.ensures.pattern.scalars c.loop-piece.invariant c.loop-piece-test.false)
