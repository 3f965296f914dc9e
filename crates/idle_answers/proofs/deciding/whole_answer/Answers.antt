use Rattle.std.proofs.Common.{subst}
use Rattle.std.proofs.lemmas.Result.{IfOk-weaker}
use Rattle.set_questions.specs.Uses.{IsUseAt}
use Rattle.tree_search.specs.declared.outcome.Budgets.{Budgets}
use Rattle.idle_answers.proofs.Verdicts.{answer_if_told}
use Rattle.idle_answers.proofs.deciding.whole_answer.Goals as goal

pub returns : goal.returns
returns c =
    let one = c.args.one.now in
    let found : IsUseAt one.schema c.args.budgets.splits c.args.budgets.states one.set c.args.name c.in_ok-told.told =
    subst (λ (b : Budgets). IsUseAt one.schema b.splits b.states one.set c.args.name c.in_ok-told.told) c.new-by.ensures.budgets c.in_ok-told.ensures.found in
    IfOk-weaker c.told_use.result _ _
    (λ a v. answer_if_told c.closing_proofs_are_small.ensures c.closing_proofs_have_no_fault.ensures c.written_requests_are_read_again.ensures c.args.certified c.args.budgets one c.args.name
    c.in_ok-told.told found a v)
    c.told_use.ensures
