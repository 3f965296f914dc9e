use Rattle.slot_theory.proofs.Sampling.{unasked-answers}
use Rattle.slot_theory.proofs.search.possible.Goals as goal

pub returns-in_default-clause-outcome : goal.returns-in_default-clause-outcome
returns-in_default-clause-outcome c =
    let none = rw (c.as_slice.ensures, c.as_slice-2.ensures.value) at c.in_default.ensures in
    (c.in_ok-stated_value.ensures.permitted, unasked-answers c.args.tests.now c.args.path.now c.args.slot.now c.in_ok-stated_value.field-0 none)
