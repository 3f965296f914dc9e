use Rattle.std.proofs.Common.{[], refl, rules}
use Rattle.tree_search.specs.Search.{followed_at}
use Rattle.tree_search.proofs.Starting.{start-carries, start-follows, start-may, start-nothing, start-stands, whole-from}
use Rattle.tree_search.proofs.deciding.search_from.Goals as goal

pub search-requires-clause-open : goal.search-requires-clause-open
search-requires-clause-open c =
    let schema = c.args.schema.now in
    let query = c.args.query.now in
    let clauses = followed_at query [] in
    record {
      at = record {
        ready = record { asked = c.requires.asked; clauses_are = search rules };
        stands = start-stands schema query clauses c.args.budgets.splits c.args.state.now c.requires.starts;
        follows = start-follows schema query clauses c.args.budgets.splits c.args.state.now c.requires.starts refl;
      };
      may = start-may schema query clauses c.args.budgets.splits c.args.state.now c.requires.starts c.requires.may;
      nothing = start-nothing schema query clauses c.args.budgets.splits c.args.state.now c.requires.starts;
    }

pub search-requires-clause-carries : goal.search-requires-clause-carries
search-requires-clause-carries c = start-carries c.args.schema.now c.args.query.now (followed_at c.args.query.now []) c.args.budgets.splits c.args.state.now c.requires.starts

pub returns : goal.returns
returns c =
    whole-from c.args.schema.now c.args.query.now (followed_at c.args.query.now []) c.args.budgets.splits c.args.state.now c.requires.starts c.args.budgets c.search.new.state c.search.result _ refl (λ r. r.stands.stored.few) c.search.ensures.found c.search.ensures.restored
