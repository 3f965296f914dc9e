use Rattle.std.proofs.Common.{subst, sym}
use Rattle.findings.specs.declared.decide.Asked.{Asked}
use Rattle.findings.specs.Answers.{AnswersQuery}
use Rattle.summary_search.proofs.Deciding.{answers}
use Rattle.summary_search.proofs.asking.BySearchDecide.ask.Goals as goal

pub returns-clause-answer : goal.returns-clause-answer
returns-clause-answer c =
    let by = c.args.self.now in
    subst (λ (a : Asked). AnswersQuery by.schema.now by.splits by.states c.args.query.now a) (sym c.answer_to.ensures)
    (answers by.schema.now c.args.query.now (record { splits = by.splits; states = by.states }) c.in_ok-verdict.verdict c.in_ok-verdict.ensures)
