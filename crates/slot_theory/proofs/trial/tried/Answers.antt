use Rattle.std.proofs.Common.{refl, subst}
use Rattle.formula_tree.specs.Answers.{Answers}
use Rattle.slot_theory.specs.Slots.{AnswersSlot}
use Rattle.slot_theory.specs.Steps.{IsWrong}
use Rattle.slot_theory.proofs.trial.tried.Goals as goal

pub returns-in-None : goal.returns-in-None
returns-in-None c =
    let q = c.args.question.now in (refl, subst (λ (ps : Answers). AnswersSlot q.tests.now ps q.slot.now c.args.value) c.as_slice.ensures.value c.in-None.ensures)

pub returns-in-Some : goal.returns-in-Some
returns-in-Some c = let q = c.args.question.now in subst (λ (ps : Answers). IsWrong q.tests.now ps q.slot.now c.args.value c.in-Some.n) c.as_slice.ensures.value c.in-Some.ensures
