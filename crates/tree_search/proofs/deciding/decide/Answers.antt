use Rattle.std.proofs.lemmas.Result.{IfOk-weaker}
use Rattle.tree_search.proofs.Starting.{few-labels, told-decides, told-within}
use Rattle.tree_search.proofs.deciding.decide.Goals as goal

pub told-requires : goal.told-requires
told-requires c = few-labels c.args.schema.now c.args.query.now c.args.budgets c.in_ok-found.found c.in_ok-found.ensures

pub returns : goal.returns
returns c = record {
  decision = IfOk-weaker c.told.result _ _ (λ d h. told-decides c.args.schema.now c.args.query.now c.args.budgets c.in_ok-found.found d c.in_ok-found.ensures h) c.told.ensures;
  within = IfOk-weaker c.told.result _ _ (λ d h. told-within c.args.schema.now c.args.query.now c.args.budgets c.in_ok-found.found d c.in_ok-found.ensures h) c.told.ensures;
}
