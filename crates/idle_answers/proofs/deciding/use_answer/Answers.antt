use Rattle.std.proofs.Common.{rules, ◌≡◌, Bool, false, subst, sym}
use Rattle.std.proofs.lemmas.Result.{IfOk-weaker}
use Rattle.idle_answers.specs.UseAnswers.{IsUseAnswerAt}
use Rattle.idle_answers.proofs.deciding.use_answer.Goals as goal

pub returns-then-not-certified-clause-answer : goal.returns-then-not-certified-clause-answer
returns-then-not-certified-clause-answer c =
    let plain : c.args.certified ≡ false = search rules in
    IfOk-weaker c.plain_answer.result _ _
    (λ a h. subst (λ (b : Bool). IsUseAnswerAt b c.args.budgets c.args.one.now c.args.name a) (sym plain) h)
    c.plain_answer.ensures.answer
