use Rattle.cnf_clauses.specs.Indexes.{StandInIndex}
use Rattle.cnf_clauses.proofs.index.index_of.Given as goal

abbrev pub invariant-clauses : goal.invariant-clauses
invariant-clauses l = StandInIndex l.clauses l.index l.i
