use Rattle.std.proofs.Common.{refl}
use Rattle.std.proofs.lemmas.List.Elements.{All-more}
use Rattle.policy_model.proofs.Laws.{All-done}
use Rattle.slot_theory.specs.Cores.{IsAnsweredOn}
use Rattle.slot_theory.proofs.cores.all_answered_on.Goals as goal

pub loop-n-preserved : goal.loop-n-preserved
loop-n-preserved c =
    All-more (IsAnsweredOn c.args.tests.now c.args.path.now c.args.slot.now) c.args.core.now _ 0 c.loop-n-test.true c.loop-n.invariant (c.is_answered_on.ensures.0 c.if-not-is_answered_on.false)

pub returns : goal.returns
returns c = (λ _. All-done (IsAnsweredOn c.args.tests.now c.args.path.now c.args.slot.now) c.args.core.now _ c.loop-n-test.false c.loop-n.invariant, λ _. refl)
