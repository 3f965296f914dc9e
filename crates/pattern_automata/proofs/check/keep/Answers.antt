use Rattle.std.proofs.lemmas.Bool.{iff_false}
use Rattle.pattern_automata.proofs.Indexing.{also-push, also-there}
use Rattle.pattern_automata.proofs.check.keep.Goals as goal

pub returns-then-has : goal.returns-then-has
returns-then-has c = also-there c.args.found.now c.args.words.now (c.has.ensures.0 c.if-has.true)

pub push-requires : goal.push-requires
push-requires c = iff_false c.has.ensures c.if-has.false

pub returns : goal.returns
returns c = also-push c.args.found.now _ c.args.words.now c.in_ok-push.ensures.ok
