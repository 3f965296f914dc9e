use Rattle.std.proofs.Common.{ℕ, Bool, refl}
use Rattle.clause_search.proofs.Answering.{answered-at, within-range}
use Rattle.clause_search.proofs.slots.ask_slots.Goals as goal

pub ask_test-requires-clause-within : goal.ask_test-requires-clause-within
ask_test-requires-clause-within c =
    let p : ℕ × Bool = (c.in-Some.test, c.in-Some.field-0-1) in
    within-range c.args.asked.now.query.now.tests c.args.path.now c.in-Some.test c.requires.range (answered-at c.args.path.now c.answers.i p c.in-Some.ensures)

pub ask_test-requires-clause-on : goal.ask_test-requires-clause-on
ask_test-requires-clause-on c =
    let p : ℕ × Bool = (c.in-Some.test, c.in-Some.field-0-1) in
    record { number = c.in-Some.test; is = record { answered = answered-at c.args.path.now c.answers.i p c.in-Some.ensures; on_slot = refl } }
