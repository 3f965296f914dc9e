use Rattle.formula_nodes.proofs.Joining.{same-claims}
use Rattle.formula_nodes.proofs.conjunction.sort_out.Goals as goal

pub returns : goal.returns
returns c = same-claims c.args.claims.now.items c.sort_unstable.new.self.items c.dedup.new.self.items c.sort_unstable.ensures.permutation c.dedup.ensures.filtered
