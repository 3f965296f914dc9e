use Rattle.slot_theory.proofs.Accepting.{conflict-by, if-ok}
use Rattle.slot_theory.proofs.check.is_conflict.Goals as goal

pub returns : goal.returns
returns c =
    let q = c.args.question.now in
    if-ok c.shows.result _ _ (λ ok says. conflict-by q.schema.now q.tests.now q.path.now q.slot.now c.args.core.now c.args.proof.now ok (c.is_core.ensures.0 c.if-not-is_core.false) says) c.shows.ensures
