-- What a whole search finds, and what is decided by it.
use Rattle.std.specs.Prelude.{◌≡◌, ◌≤◌, ◌<◌, ◌^◌, ℕ, List, [], length}
use Rattle.std.specs.declared.rc.Rc.{Rc}
use Rattle.std.specs.Global.{Global}
use Rattle.formula_tree.specs.Answers.{Answers}
use Rattle.policy_model.specs.declared.schema.Schema.{Schema}
use Rattle.policy_compile.specs.declared.outcome.Query.{Query}
use Rattle.refute_check.specs.declared.refutation.Refutation.{Refutation}
use Rattle.refute_check.specs.Proofs.{labels, proof_of}
use Rattle.search_parts.specs.declared.learning.TheConstants.{MOST_LEARNED}
use Rattle.search_parts.specs.Making.{part_proof}
use Rattle.search_parts.specs.Renaming.{renamed_proof}
use Rattle.tree_search.specs.declared.found.Found.{Found}
use Rattle.tree_search.specs.declared.found.Found.TheVariants as found
use Rattle.tree_search.specs.declared.outcome.Budgets.{Budgets}
use Rattle.tree_search.specs.declared.outcome.Decided.{Decided}
use Rattle.tree_search.specs.declared.outcome.Decided.TheVariants.{Refuted, Met, OutOfSplits, OutOfStates}
use Rattle.tree_search.specs.Search.{IsFoundFrom}

-- found from the empty path, before which nothing was stored
pub record IsWholeSearch (schema : Schema) (query : Query) (budgets : Budgets) (f : Found) : Type 0 where
  pub store : List Answers
  pub used : ℕ
  pub is : IsFoundFrom schema query budgets.states []
      (record { old = []; new = store; left = budgets.splits; used = used }) f
  pub small : length store ≤ MOST_LEARNED
  pub few : used ≤ budgets.splits

-- its labels are numbered by 32 bits
abbrev pub HasFewLabels : Found → Type 0
HasFewLabels (found.Refuted part) = labels (part_proof part) < 2 ^ 32
HasFewLabels (found.Met q) = Unit {0}
HasFewLabels found.OutOfSplits = Unit {0}
HasFewLabels (found.OutOfStates w) = Unit {0}

-- what is decided by what was found: the refutation with its labels numbered by their lines, and all else as it is
abbrev pub IsDecidedFrom : Found → Decided → Type 0
IsDecidedFrom (found.Refuted part) d = (r : Rc Refutation Global) × (d ≡ Refuted r) × (proof_of r.value ≡ renamed_proof [] 0 (part_proof part))
IsDecidedFrom (found.Met q) d = d ≡ Met q
IsDecidedFrom found.OutOfSplits d = d ≡ OutOfSplits
IsDecidedFrom (found.OutOfStates w) d = d ≡ OutOfStates w
