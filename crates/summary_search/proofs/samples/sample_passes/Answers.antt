use Rattle.std.proofs.Common.{true}
use Rattle.summary_search.proofs.Sampling.{if-some, one-found}
use Rattle.summary_search.proofs.samples.sample_passes.Goals as goal

pub returns : goal.returns
returns c = λ h.
    one-found c.args.schema.now c.args.slot.now c.requires.sound c.len-keys.ensures.ordered c.in-Some.value (c.permits.ensures h) c.args.test.now true c.requires.suits.on
    (if-some _ _ c.in-Some.value c.in_ok-value.ensures c.in-Some.is)
