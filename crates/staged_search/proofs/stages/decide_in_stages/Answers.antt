use Rattle.staged_search.proofs.Staging.{staged_if_few}
use Rattle.staged_search.proofs.stages.decide_in_stages.Goals as goal

pub returns : goal.returns
returns c =
    staged_if_few c.args.schema.now c.args.query.now c.first_budgets.result c.args.budgets c.in_ok-first.first
    c.first_budgets.ensures.few c.first_budgets.ensures.states (λ out. absurd (cc (c.is_out_of_splits-short.ensures.1 out))) c.in_ok-first.ensures
