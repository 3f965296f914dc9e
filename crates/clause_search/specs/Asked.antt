-- What a search is asked for.
use Rattle.std.specs.Prelude.{◌≤◌, ◌<◌, ◌^◌, ℕ, All, length}
use Rattle.formula_tree.specs.Values.{AreBelow}
use Rattle.text_table.specs.Table.{IsInOrder}
use Rattle.policy_model.specs.declared.schema.Schema.{Schema}
use Rattle.policy_model.specs.Soundness.{SchemaIsSound, TestSuits}
use Rattle.policy_compile.specs.declared.outcome.Query.{Query}
use Rattle.policy_compile.specs.Queries.{asked_tree}
use Rattle.clause_learning.specs.declared.asked.Asked.{Asked}

-- the schema is sound with its keys in order, every test suits it, the formula's test numbers are below the number of tests, and a
-- product may have a state
pub record IsSearchable (schema : Schema) (query : Query) (states : ℕ) : Type 0 where
  pub sound : SchemaIsSound schema
  pub order : IsInOrder schema.keys
  pub suit : All (TestSuits schema) query.tests
  pub count : length query.tests < 2 ^ 32
  pub below : AreBelow (length query.tests) (asked_tree query)
  pub positive : 1 ≤ states

abbrev pub IsSearchAsked : Asked → Type 0
IsSearchAsked a = IsSearchable a.schema.now a.query.now a.states
