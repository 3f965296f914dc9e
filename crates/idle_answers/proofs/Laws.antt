-- Which statuses what is printed of a set's statements has, and when each statement is decided.
use Rattle.std.proofs.Common.{◌≡◌, ◌∙◌, ◌⊎◌, ◌||◌, ℕ, suc, Bool, true, false, List, [], ◌∷◌, All, ap, arith, refl, inl, inr, subst}
use Rattle.std.specs.Prelude.{if◌then◌else◌}
use Rattle.std.specs.List.{AllZip, list_any}
use Rattle.command_words.specs.Asked.{UseQuestion}
use Rattle.policy_model.specs.StatementNames.{Named, named_set}
use Rattle.run_inputs.specs.declared.printed.Printed.{Printed}
use Rattle.run_inputs.specs.declared.status.Status.{Status}
use Rattle.run_inputs.specs.declared.status.Status.TheVariants as status
use Rattle.run_inputs.specs.Printing.{IsOfText}
use Rattle.run_inputs.specs.declared.one_set.OneSet.{OneSet}
use Rattle.run_inputs.specs.declared.refusal.Refusal.{Refusal}
use Rattle.run_inputs.specs.declared.refusal.Refusal.TheVariants as refusal
use Rattle.run_inputs.specs.declared.shortage.Shortage.TheVariants as shortage
use Rattle.run_inputs.specs.OneSets.{one_of, SetContents}
use Rattle.run_inputs.proofs.Laws.{no_one_fails, of_same_set, refusal_with, with_status}
use Rattle.set_questions.specs.Settling.{BothRunsFail}
use Rattle.set_questions.specs.Uses.{OfChange}
use Rattle.tree_search.specs.declared.outcome.Budgets.{Budgets}
use Rattle.idle_answers.specs.declared.answer.UseAnswer.{UseAnswer}
use Rattle.idle_answers.specs.declared.answer.UseAnswer.TheVariants as answer
use Rattle.idle_answers.specs.UseAnswers.{IsShortAt, IsUseAnswer}
use Rattle.idle_answers.specs.UsesComplete.{FitsBudgets, IsAnswerable, UsesDecide}
use Rattle.run_inputs.specs.PastLimits.{IsSetPastLimit}
use Rattle.idle_answers.specs.UsesPrinted.{AreUsesPrinted, IsIdlePrinted, use_budgets}
use Rattle.idle_answers.specs.UseTexts.{is_idle, is_undecided, uses_status}

-- ---- statuses

uses_of_text : (undecided idle : Bool) → IsOfText (if undecided then status.Undecided else (if idle then status.Fails else status.Holds))
uses_of_text true idle = tt
uses_of_text false true = tt
uses_of_text false false = tt

set_of_text : (certified : Bool) (budgets : Budgets) (one : OneSet) (p : Printed) → AreUsesPrinted certified budgets one p → IsOfText p.status
set_of_text certified budgets one p (inl past) = refusal_with (IsSetPastLimit one.schema one.set) p past
set_of_text certified budgets one p (inr says) =
    with_status p (uses_status says.answers) (uses_of_text (list_any is_undecided says.answers) (list_any is_idle says.answers)) says.prints.1

-- what is printed has a status that a text has
pub idle_of_text : (u : UseQuestion) (c : SetContents) (p : Printed) → IsIdlePrinted u c p → IsOfText p.status
idle_of_text u c p (inl none) = refusal_with _ p none
idle_of_text u c p (inr of) = set_of_text u.certified (use_budgets u) _ p of.holds.holds

-- ---- statements that are decided

-- an answer to a statement that fits the budgets is a decision
module _ (certified : Bool) (budgets : Budgets) (one : OneSet) where
  one_decides : (n : Named) (a : UseAnswer) → FitsBudgets budgets one n → IsUseAnswer certified budgets one n a → is_undecided a ≡ false
  one_decides n (answer.Used q) fits v = refl
  one_decides n answer.Idle fits v = refl
  one_decides n (answer.Proved text) fits v = refl
  one_decides n (answer.Undecided (shortage.Splits k)) fits v =
      absurd (fits.splits (subst (λ (m : ℕ). OfChange one.schema one.set n (λ q. BothRunsFail one.schema q m)) v.0 v.1))
  one_decides n (answer.Undecided (shortage.States k s)) fits v =
      absurd (fits.states s (subst (λ (m : ℕ). OfChange one.schema one.set n (IsShortAt one.schema m s)) v.0 v.1))

  none_undecided : (ns : List Named) (answers : List UseAnswer) → All (FitsBudgets budgets one) ns → AllZip (IsUseAnswer certified budgets one) ns answers
      → list_any is_undecided answers ≡ false
  none_undecided [] [] fits are = refl
  none_undecided [] (a ∷ answers) fits are = absurd are
  none_undecided (n ∷ ns) [] fits are = absurd are
  none_undecided (n ∷ ns) (a ∷ answers) fits are =
      ap (λ b. b || list_any is_undecided answers) (one_decides n a (fits 0 n (omega arith)) are.0)
      ∙ none_undecided ns answers (λ k d lt. fits (suc k) d (omega arith)) are.1

decided_status : (undecided idle : Bool) → undecided ≡ false → (s : Status) → s ≡ (if undecided then status.Undecided else (if idle then status.Fails else status.Holds))
    → (s ≡ status.Holds) ⊎ (s ≡ status.Fails)
decided_status true idle none s is = let no : true ≡ false = none in absurd (cc)
decided_status false true none s is = inr is
decided_status false false none s is = inl is

not_past : (one : OneSet) (budgets : Budgets) → IsAnswerable budgets one → (r : Refusal) → IsSetPastLimit one.schema one.set r → ⊥
not_past one budgets d refusal.TooManyTests past = d.limits.tests past
not_past one budgets d refusal.TooManyPieces past = d.limits.pieces past
not_past one budgets d _ past = past

uses_decide_of : (certified : Bool) (budgets : Budgets) (one : OneSet) (p : Printed) → IsAnswerable budgets one → AreUsesPrinted certified budgets one p
    → (p.status ≡ status.Holds) ⊎ (p.status ≡ status.Fails)
uses_decide_of certified budgets one p d (inl (r, past, told)) = absurd (not_past one budgets d r past)
uses_decide_of certified budgets one p d (inr says) =
    decided_status (list_any is_undecided says.answers) (list_any is_idle says.answers)
    (none_undecided certified budgets one (named_set one.set) says.answers d.fits says.are) p.status says.prints.1

-- files whose statements fit the budgets are decided
pub uses_decide : UsesDecide
uses_decide u c p d (inl (r, none, told)) = absurd (no_one_fails c.set c.schema (IsAnswerable (use_budgets u)) d r none)
uses_decide u c p d (inr of) =
    let same = of_same_set c.set c.schema _ _ d of in
    uses_decide_of u.certified (use_budgets u) (one_of d.named d.set) p d.holds.holds same.holds
