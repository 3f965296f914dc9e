use Rattle.std.proofs.Common.{◌≡◌, Option, IfSome, false, rules, subst}
use Rattle.policy_compile.specs.declared.outcome.Query.{Query}
use Rattle.set_questions.specs.Laws.{DecidesUse}
use Rattle.idle_answers.specs.UseTexts.{is_undecided}
use Rattle.idle_answers.proofs.Verdicts.{answer_if_decided, changes_decide, fits_changes}
use Rattle.idle_answers.proofs.deciding.plain_answer.Goals as goal

pub query_of-requires : goal.query_of-requires
query_of-requires c = fits_changes c.args.one.now c.args.changes.now c.requires.changes c.requires.fitting.fits

pub staged_answer-requires-clause-decides : goal.staged_answer-requires-clause-decides
staged_answer-requires-clause-decides c =
    let of = c.args.changes.now in
    changes_decide c.args.one.now of c.args.name c.in-Some.query c.requires.changes
    (subst (λ (o : Option Query). IfSome o (λ q. DecidesUse of.schema of.set c.args.name q)) c.in-Some.is c.in_ok-query.ensures.decides)

pub returns-clause-answer : goal.returns-clause-answer
returns-clause-answer c =
    let decides : is_undecided c.in_ok-answer.answer ≡ false = search rules in
    answer_if_decided c.args.budgets c.args.one.now c.args.name c.in-Some.query c.in_ok-answer.answer decides c.in_ok-answer.ensures
