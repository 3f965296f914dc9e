-- The lemmas on replays that crates above cite.
use Rattle.cnf_clauses.specs.Laws.{ClausesHaveTruths, ReplaysExcludeYes, SatisfiedClausesNeverReplay}
use Rattle.cnf_clauses.specs.Used.{ReplaysAreConvex}
use Rattle.cnf_clauses.proofs.Convex as convex
use Rattle.cnf_clauses.proofs.Truths as truths

-- where hints replay from a path, no completion of the path makes the tree yes
pub exclude_yes : ReplaysExcludeYes
exclude_yes = truths.exclude-yes

-- hints that replay from few and from many answers replay from all between
pub replays_between : ReplaysAreConvex
replays_between = convex.convex

-- answers that make the tree yes leave a truth of every variable
pub have_truths : ClausesHaveTruths
have_truths = truths.truths-exist

-- where a truth satisfies each clause, no hints replay
pub never_replay : SatisfiedClausesNeverReplay
never_replay = truths.never-replay
