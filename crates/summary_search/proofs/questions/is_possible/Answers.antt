use Rattle.std.proofs.Common.{subst}
use Rattle.slot_theory.specs.declared.outcome.Possible.{Possible}
use Rattle.slot_theory.specs.declared.outcome.Possible.TheVariants.{Conflict, Found}
use Rattle.slot_theory.specs.Outcome.{IsSlotOutcome}
use Rattle.slot_theory.proofs.Laws.{impossible}
use Rattle.summary_search.proofs.Answering.{found-possible}
use Rattle.summary_search.proofs.questions.is_possible.Goals as goal

pub returns-in-Found : goal.returns-in-Found
returns-in-Found c =
    let schema = c.args.schema.now in
    let tests = c.args.tests.now in
    let path = c.args.path.now in
    let slot = c.args.slot.now in
    let told : IsSlotOutcome schema tests path slot c.args.states (Found c.in-Found.field-0) =
    subst (λ (p : Possible). IsSlotOutcome schema tests path slot c.args.states p) c.in-Found.is c.in_ok-possible.ensures.outcome in
    found-possible schema tests path slot c.requires.sound c.len-keys.ensures.ordered c.requires.range c.requires.on c.requires.asked c.in-Found.field-0 told

pub returns-in-Conflict : goal.returns-in-Conflict
returns-in-Conflict c =
    let schema = c.args.schema.now in
    let tests = c.args.tests.now in
    let path = c.args.path.now in
    let slot = c.args.slot.now in
    let told : IsSlotOutcome schema tests path slot c.args.states (Conflict c.in-Conflict.field-0 c.in-Conflict.field-1) =
    subst (λ (p : Possible). IsSlotOutcome schema tests path slot c.args.states p) c.in-Conflict.is c.in_ok-possible.ensures.outcome in
    impossible schema tests path c.in-Conflict.field-0 c.in-Conflict.field-1 c.requires.suit (record { slot = slot; conflict = told })
