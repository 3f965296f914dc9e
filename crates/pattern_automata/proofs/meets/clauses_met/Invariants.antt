use Rattle.std.proofs.Common.{◌≡◌, drop}
use Rattle.pattern_automata.specs.Tree.{words_meet}
use Rattle.pattern_automata.proofs.meets.clauses_met.Given as goal

abbrev pub invariant-loop-clause : goal.invariant-loop-clause
invariant-loop-clause l = words_meet l.ends (drop l.clause-index l.clauses) l.words ≡ words_meet l.ends l.clauses l.words
