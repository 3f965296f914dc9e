-- The search finds this unasked; asked for by parts, a wrong body is refused without a longer search.
use Rattle.std.proofs.Common.{refl, rules}
use Rattle.tree_search.proofs.state.State.start.Goals as goal

pub returns : goal.returns
returns c = record {
  path = search rules;
  tree = search rules;
  clauses_are = refl;
  learned = search rules;
  cores = search rules;
  values = search rules;
  left_is = refl;
}
