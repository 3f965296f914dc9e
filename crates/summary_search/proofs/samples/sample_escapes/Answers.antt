use Rattle.std.proofs.Common.{◌∙◌, true≢false, sym}
use Rattle.summary_search.proofs.Sampling.{if-some, two-found}
use Rattle.summary_search.proofs.samples.sample_escapes.Goals as goal

pub returns : goal.returns
returns c = λ h.
    two-found c.args.schema.now c.args.slot.now c.requires.sound c.len-keys.ensures.ordered c.in-Some.value (c.permits.ensures h) c.args.yes.now c.args.no.now c.requires.yes_suits.on c.requires.no_suits.on
    (if-some _ _ c.in-Some.value c.in_ok-value.ensures c.in-Some.is)
    (λ meets. true≢false (sym (c.meets.ensures.1 meets) ∙ c.if-meets.false))
