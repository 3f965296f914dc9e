use Rattle.std.proofs.Common.{arith}
use Rattle.slot_theory.specs.Steps.{IsAttempt}
use Rattle.slot_theory.specs.declared.steps.Attempt.TheVariants.{Wrong}
use Rattle.slot_theory.proofs.Rising.{grown, core-count}
use Rattle.slot_theory.proofs.Wording.{on-within}
use Rattle.slot_theory.proofs.search.search.Goals as goal

pub grow-preserved : goal.grow-preserved
grow-preserved c =
    let q = c.args.question.now in
    let answer : IsAttempt q c.as_slice.result.now (Wrong c.in-Wrong.n) = rw c.in-Wrong.is at c.in_ok-proof.ensures in
    let within = on-within q.tests.now q.path.now q.slot.now c.in-Wrong.n q.askable.range answer.0 in
    (grown q.tests.now q.path.now q.slot.now c.grow.core _ c.in-Wrong.n c.in_ok-core-in-Wrong.core c.grow.invariant within c.as_slice-in-Wrong.ensures answer.0 c.in_ok-core-in-Wrong.ensures).0

pub grow-smaller : goal.grow-smaller
grow-smaller c =
    let q = c.args.question.now in
    let answer : IsAttempt q c.as_slice.result.now (Wrong c.in-Wrong.n) = rw c.in-Wrong.is at c.in_ok-proof.ensures in
    let within = on-within q.tests.now q.path.now q.slot.now c.in-Wrong.n q.askable.range answer.0 in
    let more = grown q.tests.now q.path.now q.slot.now c.grow.core _ c.in-Wrong.n c.in_ok-core-in-Wrong.core c.grow.invariant within c.as_slice-in-Wrong.ensures answer.0 c.in_ok-core-in-Wrong.ensures in
    let count = core-count q.tests.now q.path.now q.slot.now c.in_ok-core-in-Wrong.core more.0 in
    omega (arith, more.1, count)
