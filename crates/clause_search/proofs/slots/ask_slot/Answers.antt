use Rattle.std.proofs.Common.{sym, subst}
use Rattle.std.proofs.lemmas.Result.{on_ok_weaker}
use Rattle.slot_theory.specs.Slots.{IsSlotValue}
use Rattle.clause_search.specs.Values.{AreFoundValues}
use Rattle.clause_search.proofs.Valuing.{found-more}
use Rattle.clause_search.proofs.slots.ask_slot.Goals as goal

pub returns-in-Found : goal.returns-in-Found
returns-in-Found c =
    let a = c.args.asked.now in
    let path = c.args.path.now in
    let is : IsSlotValue a.schema.now a.query.now.tests path c.args.slot c.in-Found.value = rw c.in-Found.is at c.in_ok-value.ensures.outcome in
    let more = found-more a path c.args.values.now c.args.slot c.in-Found.value c.requires.values c.requires.new c.requires.on is in
    on_ok_weaker c.push.result (λ e. subst (AreFoundValues a path) (sym e) more) c.push.ensures.ok
