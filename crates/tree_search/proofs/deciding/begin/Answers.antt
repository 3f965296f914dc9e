use Rattle.std.proofs.Common.{subst}
use Rattle.cnf_clauses.specs.Levels.{Followed}
use Rattle.tree_search.specs.States.{IsStartState}
use Rattle.tree_search.proofs.deciding.begin.Goals as goal

pub search_from-requires-clause-starts : goal.search_from-requires-clause-starts
search_from-requires-clause-starts c = subst (λ (f : Followed). IsStartState c.args.query.now f c.args.budgets.splits c.in_ok-state.state) c.requires.follows c.in_ok-state.ensures

pub returns : goal.returns
returns c = c.search_from.ensures
