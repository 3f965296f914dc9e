use Rattle.pattern_automata.proofs.Sets.{insert-vector}
use Rattle.pattern_automata.proofs.found.push_other.Goals as goal

pub returns-clause-ok : goal.returns-clause-ok
returns-clause-ok c = insert-vector c.args.others.now.keys _ _ c.args.words.now c.in_ok-insert_full.ensures.keys c.in_ok-own.ensures.items c.requires
