use Rattle.call_cases.proofs.slots.stated.Goals as goal

pub stated_of-requires-clause-slot : goal.stated_of-requires-clause-slot
stated_of-requires-clause-slot c = c.in_ok-slot.ensures c.in_ok-schema.schema
