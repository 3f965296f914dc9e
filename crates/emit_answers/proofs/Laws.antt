-- Which statuses are printed where a policy is asked for, and when the policy is printed.
use Rattle.std.proofs.Common.{◌≡◌, ◌⊎◌, ◌≤◌, ℕ, List, arith, inl, inr, length}
use Rattle.command_words.specs.Asked.{Summarising}
use Rattle.policy_json.specs.declared.statement.TheConstants.{MOST_STATEMENTS}
use Rattle.policy_model.specs.declared.schema.Schema.{Schema}
use Rattle.summary_search.specs.declared.outcome.Limits.{Limits}
use Rattle.run_inputs.specs.declared.printed.Printed.{Printed}
use Rattle.run_inputs.specs.declared.status.Status.TheVariants as status
use Rattle.run_inputs.specs.Printing.{IsOfText}
use Rattle.run_inputs.specs.declared.one_set.OneSet.{OneSet}
use Rattle.run_inputs.specs.OneSets.{one_of, SetContents}
use Rattle.run_inputs.proofs.Laws.{no_one_fails, of_same_set, refusal_with, with_status}
use Rattle.summary_answers.specs.declared.answer.Found.{Found}
use Rattle.summary_answers.specs.Printed.{limits_in}
use Rattle.summary_answers.specs.Subjects.{subject_of_set}
use Rattle.summary_answers.proofs.Laws.{not_found_of_text, summarisable_subjects_are_found}
use Rattle.emit_answers.specs.EmitComplete.{EmitsDecide, IsEmittable}
use Rattle.emit_answers.specs.EmitPrinted.{HasNoPolicy, HasPolicy, IsEmitPrinted, IsSetEmitted}

-- ---- statuses

emits_with : (named : Schema) (one : OneSet) (found : Found) (p : Printed) → HasNoPolicy found p ⊎ HasPolicy named one found p → IsOfText p.status
emits_with named one found p (inl none) = with_status p status.Refused tt none.prints.1
emits_with named one found p (inr policy) = with_status p status.Holds tt policy.prints.1

set_with : (names : List (List ℕ)) (limits : Limits) (named : Schema) (one : OneSet) (p : Printed) → IsSetEmitted names limits named one p → IsOfText p.status
set_with names limits named one p (inl none) = not_found_of_text names limits (subject_of_set one) p none
set_with names limits named one p (inr found) = emits_with named one found.found p found.emits

pub emit_of_text : (e : Summarising) (c : SetContents) (p : Printed) → IsEmitPrinted e c p → IsOfText p.status
emit_of_text e c p (inl none) = refusal_with _ p none
emit_of_text e c p (inr of) = set_with e.dimensions (limits_in e) of.named _ p of.holds.holds

-- ---- policies that must come

policy_decides : (named : Schema) (one : OneSet) (found : Found) (p : Printed) → length found.summary ≤ MOST_STATEMENTS → HasNoPolicy found p ⊎ HasPolicy named one found p → p.status ≡ status.Holds
policy_decides named one found p few (inl none) = let many = none.many in absurd (omega arith)
policy_decides named one found p few (inr policy) = policy.prints.1

set_decides : (names : List (List ℕ)) (limits : Limits) (named : Schema) (one : OneSet) (p : Printed) → IsEmittable names limits one → IsSetEmitted names limits named one p → p.status ≡ status.Holds
set_decides names limits named one p d (inl none) = absurd (summarisable_subjects_are_found names limits (subject_of_set one) p d.summarisable none)
set_decides names limits named one p d (inr found) = policy_decides named one found.found p (d.few found.found found.is) found.emits

pub emits_decide : EmitsDecide
emits_decide e c p d (inl (r, none, told)) = absurd (no_one_fails c.set c.schema (IsEmittable e.dimensions (limits_in e)) d r none)
emits_decide e c p d (inr of) =
    let same = of_same_set c.set c.schema _ _ d of in
    set_decides e.dimensions (limits_in e) d.named (one_of d.named d.set) p d.holds.holds same.holds
