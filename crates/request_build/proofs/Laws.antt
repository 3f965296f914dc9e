-- The lemmas on joined requests that crates above cite.
use Rattle.std.proofs.Common.{List}
use Rattle.formula_tree.specs.Answers.{Answers}
use Rattle.text_table.specs.Table.{IsInOrder}
use Rattle.policy_model.specs.declared.schema.Schema.{Schema}
use Rattle.policy_model.specs.declared.test.Slot.{Slot}
use Rattle.policy_model.specs.declared.test.Test.{Test}
use Rattle.policy_model.specs.Soundness.{SchemaIsSound}
use Rattle.slot_theory.specs.declared.outcome.SlotValue.{SlotValue}
use Rattle.slot_theory.specs.Possible.{AnswersPath, IsPossible}
use Rattle.request_build.specs.Built.{AreSlotValues}
use Rattle.request_build.specs.Taken.{joined_request}
use Rattle.request_build.proofs.Joining as joins

-- the request that is joined from one value for each slot of a test answers the path
pub joined-answers : (schema : Schema) (tests : List Test) (path : Answers) (values : List (Slot × SlotValue)) → IsInOrder schema.keys → AreSlotValues schema tests path values → AnswersPath tests path (joined_request schema values)
joined-answers = joins.joined-answers

-- and it is valid, so the path is possible
pub joined-possible : (schema : Schema) (tests : List Test) (path : Answers) (values : List (Slot × SlotValue)) → SchemaIsSound schema → IsInOrder schema.keys → AreSlotValues schema tests path values → IsPossible schema tests path
joined-possible schema tests path values sound order are = record {
  request = joined_request schema values;
  valid = joins.joined-valid schema values sound order (joins.all-permitted schema tests path values are.each);
  answers = joins.joined-answers schema tests path values order are;
}
