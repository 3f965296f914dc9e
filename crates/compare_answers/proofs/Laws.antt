-- What is printed of a pair within its limits, and which statuses it has.
use Rattle.std.proofs.Common.{◌≡◌, ◌⊎◌, ℕ, List, inl, inr, subst}
use Rattle.command_words.specs.Asked.{Comparing}
use Rattle.run_inputs.specs.declared.printed.Printed.{Printed}
use Rattle.run_inputs.specs.declared.status.Status.TheVariants as status
use Rattle.run_inputs.specs.Printing.{IsOfText, PrintsText}
use Rattle.run_inputs.specs.declared.pair.Pair.{Pair}
use Rattle.run_inputs.specs.declared.refusal.Refusal.{Refusal}
use Rattle.run_inputs.specs.declared.refusal.Refusal.TheVariants as refusal
use Rattle.run_inputs.specs.declared.shortage.Shortage.TheVariants as shortage
use Rattle.run_inputs.specs.Pairs.{Contents, pair_of}
use Rattle.run_inputs.proofs.Laws.{no_pair_fails, of_same, refusal_with, with_status}
use Rattle.compare_answers.specs.declared.answer.CheckAnswer.{CheckAnswer}
use Rattle.compare_answers.specs.declared.answer.CheckAnswer.TheVariants as check
use Rattle.compare_answers.specs.declared.answer.ComparisonAnswer.{ComparisonAnswer}
use Rattle.compare_answers.specs.declared.answer.ComparisonAnswer.TheVariants as answer
use Rattle.compare_answers.specs.Comparison.{NeedsSplits, NeedsStates, TooManyPieces, TooManyTests}
use Rattle.compare_answers.specs.Complete.{ChecksDecide, ComparisonsDecide, IsDecidable, IsQueriable}
use Rattle.compare_answers.specs.Decided.{IsComparison, IsPastLimit}
use Rattle.compare_answers.specs.Printed.{IsCheckOfPair, IsCheckPrinted, IsComparisonPrinted, IsPairPrinted, budgets_of}
use Rattle.compare_answers.specs.Texts.{check_status, check_text, comparison_status, comparison_text}

-- ---- statuses

comparison_with : (p : Printed) (a : ComparisonAnswer) → PrintsText (comparison_text a) (comparison_status a) p → IsOfText p.status
comparison_with p answer.NotMore told = with_status p status.Holds tt told.1
comparison_with p (answer.Proved text) told = with_status p status.Holds tt told.1
comparison_with p (answer.More q) told = with_status p status.Fails tt told.1
comparison_with p (answer.Undecided short) told = with_status p status.Undecided tt told.1

check_with : (p : Printed) (a : CheckAnswer) → PrintsText (check_text a) (check_status a) p → IsOfText p.status
check_with p check.Accepted told = with_status p status.Holds tt told.1
check_with p (check.NotClosing line) told = with_status p status.BadProof tt told.1
check_with p (check.BadProof fault) told = with_status p status.BadProof tt told.1

pub comparison_of_text : (asked : Comparing) (c : Contents) (p : Printed) → IsComparisonPrinted asked c p → IsOfText p.status
comparison_of_text asked c p (inl none) = refusal_with _ p none
comparison_of_text asked c p (inr of) = elim of.holds.holds [
  | inl past ↦ refusal_with _ p past
  | inr said ↦ comparison_with p said.answer said.prints
]

pub check_of_text : (proof : List ℕ) (c : Contents) (p : Printed) → IsCheckPrinted proof c p → IsOfText p.status
check_of_text proof c p (inl none) = refusal_with _ p none
check_of_text proof c p (inr of) = elim of.holds.holds [
  | inl past ↦ refusal_with _ p past
  | inr said ↦ check_with p said.answer said.prints
]

-- ---- decided pairs

not_past : (pair : Pair) → ¬ TooManyTests pair → ¬ TooManyPieces pair → (r : Refusal) → IsPastLimit pair r → ⊥
not_past pair tests pieces refusal.TooManyTests v = tests v
not_past pair tests pieces refusal.TooManyPieces v = pieces v
not_past pair tests pieces (refusal.BadSchema fault) v = v
not_past pair tests pieces (refusal.BadSet file fault) v = v
not_past pair tests pieces (refusal.BadCondition file fault) v = v

module _ (asked : Comparing) (pair : Pair) (p : Printed) (d : IsDecidable (budgets_of asked) pair) where
  answer_decides : (a : ComparisonAnswer) → IsComparison asked.certified (budgets_of asked) pair a → PrintsText (comparison_text a) (comparison_status a) p → (p.status ≡ status.Holds) ⊎ (p.status ≡ status.Fails)
  answer_decides answer.NotMore v told = inl told.1
  answer_decides (answer.Proved text) v told = inl told.1
  answer_decides (answer.More q) v told = inr told.1
  answer_decides (answer.Undecided (shortage.Splits n)) v told = absurd (d.splits (subst (λ (k : ℕ). NeedsSplits pair k) v.0 v.1))
  answer_decides (answer.Undecided (shortage.States n s)) v told = absurd (d.states s (subst (λ (k : ℕ). NeedsStates pair k s) v.0 v.1))

  pair_decides : IsPairPrinted asked.certified (budgets_of asked) pair p → (p.status ≡ status.Holds) ⊎ (p.status ≡ status.Fails)
  pair_decides (inl (r, past, told)) = absurd (not_past pair d.tests d.pieces r past)
  pair_decides (inr said) = answer_decides said.answer said.holds said.prints

pub comparisons_decide : ComparisonsDecide
comparisons_decide asked c p d (inl (r, none, told)) = absurd (no_pair_fails c (IsDecidable (budgets_of asked)) d r none)
comparisons_decide asked c p d (inr of) =
    let same = of_same c _ _ d of in
    pair_decides asked (pair_of d.named d.one d.two) p d.holds.holds same.holds

module _ (proof : List ℕ) (pair : Pair) (p : Printed) (d : IsQueriable pair) where
  check_decides : (a : CheckAnswer) → PrintsText (check_text a) (check_status a) p → (p.status ≡ status.Holds) ⊎ (p.status ≡ status.BadProof)
  check_decides check.Accepted told = inl told.1
  check_decides (check.NotClosing line) told = inr told.1
  check_decides (check.BadProof fault) told = inr told.1

  checked_decides : IsCheckOfPair proof pair p → (p.status ≡ status.Holds) ⊎ (p.status ≡ status.BadProof)
  checked_decides (inl (r, past, told)) = absurd (not_past pair d.tests d.pieces r past)
  checked_decides (inr said) = check_decides said.answer said.prints

pub checks_decide : ChecksDecide
checks_decide proof c p d (inl (r, none, told)) = absurd (no_pair_fails c IsQueriable d r none)
checks_decide proof c p d (inr of) =
    let same = of_same c _ _ d of in
    checked_decides proof (pair_of d.named d.one d.two) p d.holds.holds same.holds
