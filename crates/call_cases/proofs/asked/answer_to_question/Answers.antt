use Rattle.call_cases.proofs.asked.answer_to_question.Goals as goal

pub asked_of_slot-requires-clause-slot : goal.asked_of_slot-requires-clause-slot
asked_of_slot-requires-clause-slot c = c.in_ok-slot.ensures c.in_ok-schema.schema
