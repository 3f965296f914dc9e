use Rattle.std.proofs.Common.{length, sym}
use Rattle.std.proofs.lemmas.Option.{slice_get_read}
use Rattle.tree_search.proofs.Keeping.{stored-there}
use Rattle.tree_search.proofs.cores.Cores.hit.Goals as goal

pub returns : goal.returns
returns c = record {
  number = c.in-Some.number;
  answers = c.at.result.now;
  refutation = c.index.result.now;
  list = c.at.ensures;
  kept = slice_get_read c.args.self.now.parts.items (length c.args.self.now.lists.lists) c.in-Some.number c.index.result.now (sym c.requires) c.in-Some.ensures.0 c.index.ensures;
  is = c.in_ok-part.ensures;
  there = stored-there c.args.self.now.lists.lists c.in-Some.number c.at.result.now c.args.self.now.lists.path c.at.ensures c.in-Some.ensures.1;
}
