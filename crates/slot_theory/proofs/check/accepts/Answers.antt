use Rattle.std.proofs.Common.{sym}
use Rattle.std.proofs.lemmas.Bool.{false≢true}
use Rattle.slot_theory.proofs.Accepting.{accepts-where, if-ok, no-first, no-test}
use Rattle.slot_theory.proofs.check.accepts.Goals as goal

pub returns-in_default : goal.returns-in_default
returns-in_default c = (
  λ e. absurd (false≢true e),
  λ a. absurd (no-first c.args.schema.now c.args.tests.now c.args.path.now c.args.core.now c.args.proof.now (sym c.in_default.ensures) a),
)

pub returns-in_default-get : goal.returns-in_default-get
returns-in_default-get c = (
  λ e. absurd (false≢true e),
  λ a. absurd (no-test c.args.schema.now c.args.tests.now c.args.path.now c.args.core.now c.args.proof.now c.in-Some.first.now (sym c.in-Some.ensures) (sym c.in_default-get.ensures) a),
)

pub returns : goal.returns
returns c =
    if-ok c.is_conflict.result _ _ (λ ok says. accepts-where c.args.schema.now c.args.tests.now c.as_slice.result.now c.args.path.now c.args.core.now c.as_slice-2.result.now c.in_ok-slot.slot c.args.proof.now c.in-Some.first.now c.in-Some-get.test.now ok
    (sym c.in-Some.ensures) (sym c.in-Some-get.ensures) c.as_slice.ensures c.as_slice-2.ensures c.in_ok-slot.ensures says) c.is_conflict.ensures
