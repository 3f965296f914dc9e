-- What may be printed to a comparison of two sets, and to a check of a certificate.
use Rattle.std.specs.Prelude.{◌⊎◌, ℕ, List, Bool}
use Rattle.command_words.specs.Asked.{Comparing}
use Rattle.tree_search.specs.declared.outcome.Budgets.{Budgets}
use Rattle.run_inputs.specs.declared.printed.Printed.{Printed}
use Rattle.run_inputs.specs.Printing.{PrintsText}
use Rattle.run_inputs.specs.declared.pair.Pair.{Pair}
use Rattle.run_inputs.specs.Pairs.{Contents, IsPairRefusal, SomePair}
use Rattle.run_inputs.specs.Refusals.{IsRefusedBy}
use Rattle.compare_answers.specs.declared.answer.CheckAnswer.{CheckAnswer}
use Rattle.compare_answers.specs.declared.answer.ComparisonAnswer.{ComparisonAnswer}
use Rattle.compare_answers.specs.Decided.{IsChecked, IsComparison, IsPastLimit}
use Rattle.compare_answers.specs.Texts.{check_status, check_text, comparison_status, comparison_text}

-- the budgets of a comparison
abbrev pub budgets_of : Comparing → Budgets
budgets_of c = record { splits = c.splits; states = c.states }

-- the text and status of an answer that satisfies P
pub record PrintsComparison (P : ComparisonAnswer → Type 0) (p : Printed) : Type 0 where
  pub answer : ComparisonAnswer
  pub holds : P answer
  pub prints : PrintsText (comparison_text answer) (comparison_status answer) p

pub record PrintsCheck (P : CheckAnswer → Type 0) (p : Printed) : Type 0 where
  pub answer : CheckAnswer
  pub holds : P answer
  pub prints : PrintsText (check_text answer) (check_status answer) p

-- of a pair: the limit that its query is past, or what a comparison says of it
abbrev pub IsPairPrinted : Bool → Budgets → Pair → Printed → Type 0
IsPairPrinted certified budgets pair p =
    IsRefusedBy (IsPastLimit pair) p ⊎ PrintsComparison (IsComparison certified budgets pair) p

-- as above, for a check
abbrev pub IsCheckOfPair : List ℕ → Pair → Printed → Type 0
IsCheckOfPair proof pair p = IsRefusedBy (IsPastLimit pair) p ⊎ PrintsCheck (IsChecked proof pair) p

-- of files: why they stand for no pair, or what is printed of the pair that they stand for
abbrev pub IsComparisonPrinted : Comparing → Contents → Printed → Type 0
IsComparisonPrinted asked c p =
    IsRefusedBy (IsPairRefusal c) p ⊎ SomePair c (λ pair. IsPairPrinted asked.certified (budgets_of asked) pair p)

abbrev pub IsCheckPrinted : List ℕ → Contents → Printed → Type 0
IsCheckPrinted proof c p = IsRefusedBy (IsPairRefusal c) p ⊎ SomePair c (λ pair. IsCheckOfPair proof pair p)
