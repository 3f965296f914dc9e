use Rattle.refute_check.proofs.Labelling.{fresh}
use Rattle.refute_check.proofs.labels.path_of.Goals as goal

pub push-requires : goal.push-requires
push-requires c = rw c.pairs.invariant (fresh c.args.answers.now c.pairs.pair-index _ c.requires.rise c.pairs-test.true)
