use Rattle.std.proofs.Common.{subst, sym}
use Rattle.set_questions.specs.Settling.{SettlesQuery}
use Rattle.set_questions.specs.declared.settling.Settled.{Settled}
use Rattle.idle_answers.proofs.Verdicts.{settles}
use Rattle.idle_answers.proofs.settling.ByRefutationSettle.settle.Goals as goal

pub returns-clause-answer : goal.returns-clause-answer
returns-clause-answer c =
    let by = c.args.self.now in
    subst (λ (st : Settled). SettlesQuery by.schema.now by.budgets.splits by.budgets.states c.args.query.now st) (sym c.settled_of.ensures)
    (settles by.schema.now c.args.query.now by.budgets c.in_ok-decided.decided c.in_ok-decided.ensures.decision)
