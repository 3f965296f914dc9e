use Rattle.std.proofs.Common.{◌≡◌, ◌+◌, ◌++◌, [], ◌∷◌, take, ap, sym, ◌∙◌}
use Rattle.std.proofs.lemmas.List.{take_more}
use Rattle.policy_model.specs.declared.test.Slot.{Slot}
use Rattle.slot_theory.specs.declared.outcome.SlotValue.{SlotValue}
use Rattle.request_build.proofs.First.{one-more-slot}
use Rattle.request_build.proofs.context.first_values.Goals as goal

pub loop-slot-preserved : goal.loop-slot-preserved
loop-slot-preserved c =
    let values = c.args.values.now in
    let i = c.loop-slot.slot-index in
    let more : take (i + 1) values ≡ take i values ++ c.loop-slot-item.result ∷ [] = take_more values i c.loop-slot-item.result c.loop-slot-test.true ∙ ap (λ (p : Slot × SlotValue). take i values ++ p ∷ []) (sym c.loop-slot-item.is) in
    one-more-slot (take i values) (take (i + 1) values) c.loop-slot-item.result c.loop-slot.found c.add_first.new.found more c.loop-slot.invariant c.in_ok-add_first.ensures
