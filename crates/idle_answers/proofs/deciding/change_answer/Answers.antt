use Rattle.std.proofs.lemmas.Result.{IfOk-weaker}
use Rattle.idle_answers.proofs.Verdicts.{answer_if_itself, itself_decides}
use Rattle.idle_answers.proofs.deciding.change_answer.Goals as goal

pub staged_answer-requires-clause-decides : goal.staged_answer-requires-clause-decides
staged_answer-requires-clause-decides c =
    itself_decides c.change_queries_tell.ensures c.args.one.now c.args.name c.in_ok-query.query c.requires.fitting c.requires.named c.in_ok-query.ensures

pub returns : goal.returns
returns c =
    IfOk-weaker c.staged_answer.result _ _
    (λ a h. answer_if_itself c.args.budgets c.args.one.now c.args.name c.in_ok-query.query c.in_ok-query.ensures a h)
    c.staged_answer.ensures
