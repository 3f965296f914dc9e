use Rattle.pattern_automata.proofs.Sets.{insert-word}
use Rattle.pattern_automata.proofs.found.push_single.Goals as goal

pub returns-clause-ok : goal.returns-clause-ok
returns-clause-ok c = insert-word c.args.single.now.keys _ c.args.word c.in_ok-insert_full.ensures.keys c.requires
