-- How many splits lead to a node while a search runs.
use Rattle.std.specs.Prelude.{◌≡◌, ◌≤◌, ◌+◌, ℕ, List, length, true, false}
use Rattle.formula_tree.specs.Answers.{Answers}
use Rattle.formula_tree.specs.Nodes.{IsNode}
use Rattle.formula_tree.specs.Runs.{path_with}
use Rattle.policy_model.specs.declared.schema.Schema.{Schema}
use Rattle.policy_compile.specs.declared.outcome.Query.{Query}
use Rattle.policy_compile.specs.Queries.{asked_tree}
use Rattle.refute_check.specs.Proofs.{Proof, labels, splits}
use Rattle.search_parts.specs.Parts.{ClosesByStore, EndInOrder}
use Rattle.slot_theory.specs.Possible.{IsPossible}
use Rattle.tree_search.specs.Nodes.{IsCounted, IsPropagatedNode}

-- The path is closed by so many splits, by what is stored, while labels are numbered in the order of learning. Of the stored lists so
-- many had ended before.
pub record IsPassedBy (schema : Schema) (query : Query) (store : List Answers) (ended made : ℕ) (path : Answers) (passed : Proof)
    : Type 0 where
  pub closes : ClosesByStore store schema query.tests (asked_tree query) passed path
  pub order : EndInOrder ended passed
  pub within : ended + labels passed ≤ length store
  pub among : splits passed ≤ made
  pub counted : IsCounted schema query path made

-- so many splits lead from the first path to the second
pub data LeadBy (schema : Schema) (query : Query) (store : List Answers) : ℕ → ℕ → Answers → Answers → Type 0 where
  nowhere : (ended : ℕ) (path : Answers) → LeadBy schema query store ended 0 path path
  to_yes : (ended : ℕ) (path node : Answers) (n k all : ℕ) → LeadBy schema query store ended k (path_with path n true) node →
      all ≡ k + 1 → LeadBy schema query store ended all path node
  to_no : (ended : ℕ) (path node : Answers) (n made k all : ℕ) (passed : Proof) →
      IsPassedBy schema query store ended made (path_with path n true) passed →
      LeadBy schema query store (ended + labels passed) k (path_with path n false) node → all ≡ made + k + 1 →
      LeadBy schema query store ended all path node

-- to a node of both runs from the first
pub record IsReachedBy (schema : Schema) (query : Query) (store : List Answers) (ended made : ℕ) (path node : Answers) : Type 0 where
  pub on_run : IsNode (IsPossible schema query.tests) (asked_tree query) path node
  pub propagated : IsPropagatedNode schema query path node
  pub lead : LeadBy schema query store ended made path node
