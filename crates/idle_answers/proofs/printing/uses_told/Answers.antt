use Rattle.std.proofs.Common.{subst, sym}
use Rattle.set_questions.specs.Changes.{SchemaSet}
use Rattle.idle_answers.specs.Deciding.{AreChangesOf}
use Rattle.idle_answers.proofs.Telling.{name_there, told_next}
use Rattle.idle_answers.proofs.printing.uses_told.Goals as goal

pub use_answer-requires-clause-named : goal.use_answer-requires-clause-named
use_answer-requires-clause-named c =
    name_there c.args.one.now.set c.args.names.now c.names.name-index _ c.requires.names c.names-test.true

pub names-preserved : goal.names-preserved
names-preserved c = (
  told_next c.args.certified c.args.budgets c.args.one.now c.args.names.now c.names.name-index _ c.names.told c.add_use.new.told c.requires.names
      c.names-test.true c.names.invariant.0 (record { answer = c.in_ok-answer.answer; is = c.in_ok-answer.ensures.answer; adds = c.in_ok-add_use.ensures }),
  subst (λ (of : SchemaSet). AreChangesOf c.args.one.now of) (sym c.in_ok-answer.ensures.same) c.names.invariant.1,
)
