use Rattle.slot_theory.proofs.wants.patterns_of.Goals as goal

pub pattern_of-requires : goal.pattern_of-requires
pattern_of-requires c =
    (c.args.question.now.schema.now, c.args.question.now.askable.suit _ c.index-question-n.result (c.requires.wanted.within c.loop-n.n-index 0 c.loop-n-test.true))
