-- The search finds this unasked; asked for by parts, a wrong body is refused without a longer search.
use Rattle.std.proofs.Common.{arith, rules}
use Rattle.std.proofs.lemmas.Grind.{common_steps}
use Rattle.tree_search.proofs.state.State.go_back.Goals as goal

pub returns : goal.returns
returns c = record {
  beside = search rules;
  path = grind (arith, common_steps);
  tree = c.set.ensures;
  learned = grind (arith, common_steps);
  cores = grind (arith, common_steps);
}
