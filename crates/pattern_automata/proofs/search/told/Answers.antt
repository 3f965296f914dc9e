use Rattle.pattern_automata.proofs.Answering.{sizes, product-answer}
use Rattle.pattern_automata.proofs.Standing.{stands}
use Rattle.pattern_automata.proofs.search.told.Goals as goal

pub answer-requires-clause-sizes : goal.answer-requires-clause-sizes
answer-requires-clause-sizes c = rw c.as_slice.ensures (sizes _ _ _ _ _ c.requires.machine.ends c.requires.range _ _ _ c.requires.ends)

pub returns : goal.returns
returns c =
    product-answer _ _ _ _ _ c.requires.machine.ends c.requires.range _ _ _ _ c.requires.ends (rw c.as_slice.ensures at c.answer.ensures) (stands _ _ _ c.requires.machine.alphabet)
