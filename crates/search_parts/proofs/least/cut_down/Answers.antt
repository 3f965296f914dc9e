use Rattle.tree_values.specs.Models.{answered_tree}
use Rattle.search_parts.proofs.Choosing.{cut-result}
use Rattle.search_parts.proofs.least.cut_down.Goals as goal

pub returns-clause-cut : goal.returns-clause-cut
returns-clause-cut c =
    cut-result (answered_tree c.args.values.now) c.args.path.now c.args.needed.now c.args.test c.args.sides c.in_ok-cut.cut c.new-none.result c.chosen.result c.new-none.ensures c.in_ok-cut.ensures.cut c.chosen.ensures.chosen
