-- What may be asked of the predicates of a slot, and what is answered.
use Rattle.std.specs.Prelude.{ℕ, List, ◌++◌}
use Rattle.std.specs.List.{flat_map}
use Rattle.std.specs.Option.{option_to_list}
use Rattle.wildcard_lang.specs.declared.piece.Piece.{Piece}
use Rattle.wildcard_lang.specs.Places.{ShowWider}
use Rattle.policy_model.specs.declared.schema.Schema.{Schema}
use Rattle.policy_model.specs.declared.test.Slot.{Slot}
use Rattle.policy_model.specs.Soundness.{SchemaIsSound}
use Rattle.slot_theory.specs.Slots.{SlotIsIn, asked_by_schema, test_patterns}
use Rattle.strata.specs.declared.inclusion.Within.{Within}
use Rattle.strata.specs.declared.inclusion.Within.TheVariants.{Yes, No, TooMany}
use Rattle.strata.specs.declared.predicate.Predicate.{Predicate}
use Rattle.strata.specs.declared.predicate.Predicate.TheVariants.{Every}
use Rattle.strata.specs.Below.{IsApart, IsBelow, IsMetUnder}
use Rattle.strata.specs.Predicates.{test_of}

-- the schema is sound, and requests under it may have a value in the slot
pub record IsAskedIn (schema : Schema) (s : Slot) : Type 0 where
  pub sound : SchemaIsSound schema
  pub slot : SlotIsIn schema s

-- the patterns of a predicate in a slot: those of its test. `any` has none
abbrev pub predicate_patterns : Slot → Predicate → List (List Piece)
predicate_patterns s p = flat_map test_patterns (option_to_list (test_of s p))

-- the patterns of two predicates of a slot, and then what the schema asks of every value of the slot
abbrev pub pair_patterns : Schema → Slot → Predicate → Predicate → List (List Piece)
pair_patterns schema s p q = predicate_patterns s p ++ (predicate_patterns s q ++ asked_by_schema schema s)

-- whether some valid request meets the predicate; or one more text than the number of states, with different product states of
-- its patterns
abbrev pub AnswersMet : Schema → ℕ → Slot → Predicate → Within → Type 0
AnswersMet schema states s p Yes = IsMetUnder schema s p
AnswersMet schema states s p No = ¬ IsMetUnder schema s p
AnswersMet schema states s p (TooMany texts) = ShowWider (pair_patterns schema s p Every) states texts

-- whether p is below q, or a valid request that meets p and not q; or one more text than the number of states, with different product states of the patterns of both
abbrev pub AnswersWithin : Schema → ℕ → Slot → Predicate → Predicate → Within → Type 0
AnswersWithin schema states s p q Yes = IsBelow schema s p q
AnswersWithin schema states s p q No = IsApart schema s p q
AnswersWithin schema states s p q (TooMany texts) = ShowWider (pair_patterns schema s p q) states texts
