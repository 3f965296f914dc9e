use Rattle.std.proofs.Common.{false}
use Rattle.summary_search.proofs.Sampling.{never-both, one-found}
use Rattle.summary_search.proofs.samples.stated_misses.Goals as goal

pub returns : goal.returns
returns c = λ h.
    one-found c.args.schema.now c.args.slot.now c.requires.sound c.len-keys.ensures.ordered c.in_ok-value.value c.in_ok-value.ensures.permitted c.args.test.now false c.requires.suits.on
    (λ meets. never-both c.meets.result h (c.meets.ensures.1 meets))
