use Rattle.pattern_automata.proofs.Fronting.{words-end, words-more}
use Rattle.pattern_automata.proofs.fronts.words_by.Goals as goal

pub returns-clause-marks : goal.returns-clause-marks
returns-clause-marks c = words-end c.args.kind c.args.fronts.now c.loop-index.words.items c.loop-index.index c.loop-index-test.false c.loop-index.invariant.0 c.loop-index.invariant.1

pub loop-index-preserved : goal.loop-index-preserved
loop-index-preserved c =
    words-more c.args.kind c.args.fronts.now c.loop-index.words.items _ c.loop-index.index _ c.loop-index.invariant.0 c.loop-index.invariant.1 c.word_at.ensures c.in_ok-push.ensures.items
