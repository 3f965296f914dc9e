-- When a pair is decided.
use Rattle.std.specs.Prelude.{◌≡◌, ◌⊎◌, List, ℕ}
use Rattle.command_words.specs.Asked.{Comparing}
use Rattle.tree_search.specs.declared.outcome.Budgets.{Budgets}
use Rattle.run_inputs.specs.declared.printed.Printed.{Printed}
use Rattle.run_inputs.specs.declared.status.Status.TheVariants.{Holds, Fails, BadProof}
use Rattle.run_inputs.specs.declared.pair.Pair.{Pair}
use Rattle.run_inputs.specs.Pairs.{Contents, SomePair}
use Rattle.compare_answers.specs.Comparison.{FitsStates, NeedsSplits, TooManyPieces, TooManyTests}
use Rattle.compare_answers.specs.Printed.{IsCheckPrinted, IsComparisonPrinted, budgets_of}

-- the query of the pair is within its limits, and no budget is below the plain need
pub record IsDecidable (budgets : Budgets) (pair : Pair) : Type 0 where
  pub tests : ¬ TooManyTests pair
  pub pieces : ¬ TooManyPieces pair
  pub splits : ¬ NeedsSplits pair budgets.splits
  pub states : FitsStates pair budgets.states

-- the query of the pair is within its limits
pub record IsQueriable (pair : Pair) : Type 0 where
  pub tests : ¬ TooManyTests pair
  pub pieces : ¬ TooManyPieces pair

-- a decidable pair is decided
abbrev pub ComparisonsDecide : Type 0
ComparisonsDecide = (asked : Comparing) (c : Contents) (p : Printed) →
    SomePair c (IsDecidable (budgets_of asked)) → IsComparisonPrinted asked c p → (p.status ≡ Holds) ⊎ (p.status ≡ Fails)

-- a certificate of a queriable pair is accepted or bad
abbrev pub ChecksDecide : Type 0
ChecksDecide = (proof : List ℕ) (c : Contents) (p : Printed) →
    SomePair c IsQueriable → IsCheckPrinted proof c p → (p.status ≡ Holds) ⊎ (p.status ≡ BadProof)
