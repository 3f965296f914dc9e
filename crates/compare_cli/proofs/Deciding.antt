-- What is printed has a status of a text, and over accepted files without faults one of an answer of the command.
use Rattle.std.proofs.Common.{◌≡◌, ◌⊎◌, ◌∙◌, ℕ, List, [], Bool, true, false, Option, None, Some, ap, inl, inr, refl, subst, sym}
use Rattle.command_words.specs.Asked.{Asked, Summarising, CheckCommand, CompareCommand, LoadCommand, ReachCommand, SummaryCommand, CheckSummaryCommand}
use Rattle.command_words.specs.Asked.{IdleCommand, EmitCommand, EvalCommand, NewAccessCommand, CheckNewAccessCommand, NewAccessUsage}
use Rattle.pol_outside.specs.Faults.{Rose}
use Rattle.pol_outside.specs.Folder.{Files}
use Rattle.run_inputs.specs.declared.printed.Printed.{Printed}
use Rattle.run_inputs.specs.declared.status.Status.{Status}
use Rattle.run_inputs.specs.declared.status.Status.TheVariants as status
use Rattle.run_inputs.specs.Printing.{IsOfText}
use Rattle.run_inputs.specs.Readings.{AreRead, FileName, FilesFail, OfReadFiles, Reading, if_given}
use Rattle.run_inputs.proofs.FileLaws.{none_fails, same_read}
use Rattle.run_inputs.specs.Pairs.{Contents, contents}
use Rattle.compare_answers.proofs.Laws.{check_of_text, checks_decide, comparison_of_text, comparisons_decide}
use Rattle.eval_answers.specs.Evaluated.{EvaluationContents, evaluation_contents}
use Rattle.eval_answers.proofs.Laws.{evaluation_of_text, evaluations_decide}
use Rattle.run_inputs.specs.OneSets.{SetContents, set_contents}
use Rattle.run_inputs.proofs.Laws.{with_status}
use Rattle.summary_answers.proofs.Laws.{summaries_decide, summary_of_text}
use Rattle.idle_answers.proofs.Laws.{idle_of_text, uses_decide}
use Rattle.reach_answers.specs.ReachPrinted.{ReachContents, reach_contents}
use Rattle.reach_answers.proofs.Laws.{reach_of_text, reaches_decide}
use Rattle.emit_answers.proofs.Laws.{emit_of_text, emits_decide}
use Rattle.certified_summaries.proofs.Laws.{certified_summaries_decide, certified_summary_of_text, summary_check_of_text, summary_checks_decide}
use Rattle.access_answers.proofs.Laws.{new_access_check_of_text, new_access_checks_decide, new_access_decides, new_access_of_text}
use Rattle.compare_cli.specs.Commands.{CheckContents, IsSummaryPrintedFrom, MayPrint, IsPrinted, checked_bytes, compared_bytes, evaluated_bytes}
use Rattle.compare_cli.specs.Commands.{SummaryCheckContents, one_set_bytes, named_files, reached_bytes, summary_checked_bytes}
use Rattle.compare_cli.specs.Complete.{IsAccepted, IsAcceptedBy, IsDecided, IsSummaryFor}

-- ---- statuses

summarised_of_text : (s : Summarising) (certified : Bool) (c : SetContents) (p : Printed) → IsSummaryPrintedFrom s certified c p → IsOfText p.status
summarised_of_text s true c p v = certified_summary_of_text s c p v
summarised_of_text s false c p v = summary_of_text s c p v

may_of_text : (asked : Asked) (r : Reading) (p : Printed) → MayPrint asked r p → IsOfText p.status
may_of_text (CompareCommand c) r p v = comparison_of_text c v.contents p v.holds
may_of_text (CheckCommand c) r p v = check_of_text v.contents.proof v.contents.sets p v.holds
may_of_text (SummaryCommand s certified) r p v = summarised_of_text s certified v.contents p v.holds
may_of_text (EvalCommand e) r p v = evaluation_of_text v.contents p v.holds
may_of_text (LoadCommand keys) r p v = with_status p status.Holds tt v.prints.1
may_of_text (IdleCommand u) r p v = idle_of_text u v.contents p v.holds
may_of_text (ReachCommand s zone) r p v = reach_of_text s v.contents p v.holds
may_of_text (EmitCommand s) r p v = emit_of_text s v.contents p v.holds
may_of_text (CheckSummaryCommand k) r p v = summary_check_of_text k v.contents.proof v.contents.set p v.holds
may_of_text (NewAccessCommand s second certified) r p v = new_access_of_text s certified v.contents p v.holds
may_of_text (CheckNewAccessCommand k second) r p v = new_access_check_of_text k v.contents.proof v.contents.sets p v.holds
may_of_text NewAccessUsage r p v = with_status p status.Usage tt v.1

pub printed_of_text : (asked : Option Asked) (r : Reading) (p : Printed) → IsPrinted asked r p → IsOfText p.status
printed_of_text None r p v = with_status p status.Usage tt v.0.1
printed_of_text (Some asked) r p (inl failing) = elim failing.fails [
  | inl failed ↦ with_status p status.ReadFault tt failed.2.1
  | inr long ↦ with_status p status.Refused tt long.2.1
]
printed_of_text (Some asked) r p (inr v) = may_of_text asked r p v.0

-- ---- the same bytes are of the same contents

given_once : (a b : Option (List ℕ)) → if_given a ≡ if_given b → a ≡ b
given_once None None e = cc
given_once None (Some y) e = absurd (cc)
given_once (Some x) None e = absurd (cc)
given_once (Some x) (Some y) e = cc

compared_once : (c d : Contents) → compared_bytes c ≡ compared_bytes d → c ≡ d
compared_once c d e =
    let first : c.first ≡ d.first = cc in
    let second : c.second ≡ d.second = cc in
    let rest : if_given c.schema ≡ if_given d.schema = cc in
    let schema = given_once c.schema d.schema rest in
    ap (λ (bs : List ℕ). contents bs c.second c.schema) first
    ∙ (ap (λ (bs : List ℕ). contents d.first bs c.schema) second ∙ ap (λ (bs : Option (List ℕ)). contents d.first d.second bs) schema)

abbrev checked_contents : Contents → List ℕ → CheckContents
checked_contents sets proof = record { sets = sets; proof = proof }

checked_once : (c d : CheckContents) → checked_bytes c ≡ checked_bytes d → c ≡ d
checked_once c d e =
    let first : c.sets.first ≡ d.sets.first = cc in
    let second : c.sets.second ≡ d.sets.second = cc in
    let proof : c.proof ≡ d.proof = cc in
    let rest : if_given c.sets.schema ≡ if_given d.sets.schema = cc in
    let schema = given_once c.sets.schema d.sets.schema rest in
    ap (λ (bs : List ℕ). checked_contents (contents bs c.sets.second c.sets.schema) c.proof) first
    ∙ (ap (λ (bs : List ℕ). checked_contents (contents d.sets.first bs c.sets.schema) c.proof) second
    ∙ (ap (λ (bs : Option (List ℕ)). checked_contents (contents d.sets.first d.sets.second bs) c.proof) schema
    ∙ ap (λ (bs : List ℕ). checked_contents d.sets bs) proof))

one_set_once : (c d : SetContents) → one_set_bytes c ≡ one_set_bytes d → c ≡ d
one_set_once c d e =
    let set : c.set ≡ d.set = cc in
    let rest : if_given c.schema ≡ if_given d.schema = cc in
    let schema = given_once c.schema d.schema rest in
    ap (λ (bs : List ℕ). set_contents bs c.schema) set ∙ ap (λ (bs : Option (List ℕ)). set_contents d.set bs) schema

evaluated_once : (c d : EvaluationContents) → evaluated_bytes c ≡ evaluated_bytes d → c ≡ d
evaluated_once c d e =
    let set : c.set ≡ d.set = cc in
    let request : c.request ≡ d.request = cc in
    let rest : if_given c.schema ≡ if_given d.schema = cc in
    let schema = given_once c.schema d.schema rest in
    ap (λ (bs : List ℕ). evaluation_contents bs c.request c.schema) set
    ∙ (ap (λ (bs : List ℕ). evaluation_contents d.set bs c.schema) request ∙ ap (λ (bs : Option (List ℕ)). evaluation_contents d.set d.request bs) schema)

reached_once : (c d : ReachContents) → reached_bytes c ≡ reached_bytes d → c ≡ d
reached_once c d e =
    let set : c.set ≡ d.set = cc in
    let zone : c.zone ≡ d.zone = cc in
    let rest : if_given c.schema ≡ if_given d.schema = cc in
    let schema = given_once c.schema d.schema rest in
    ap (λ (bs : List ℕ). reach_contents bs c.zone c.schema) set
    ∙ (ap (λ (bs : List ℕ). reach_contents d.set bs c.schema) zone ∙ ap (λ (bs : Option (List ℕ)). reach_contents d.set d.zone bs) schema)

abbrev summary_checked_contents : List ℕ → Option (List ℕ) → List ℕ → SummaryCheckContents
summary_checked_contents set schema proof = record { set = set_contents set schema; proof = proof }

summary_checked_once : (c d : SummaryCheckContents) → summary_checked_bytes c ≡ summary_checked_bytes d → c ≡ d
summary_checked_once c d e =
    let set : c.set.set ≡ d.set.set = cc in
    let proof : c.proof ≡ d.proof = cc in
    let rest : if_given c.set.schema ≡ if_given d.set.schema = cc in
    let schema = given_once c.set.schema d.set.schema rest in
    ap (λ (bs : List ℕ). summary_checked_contents bs c.set.schema c.proof) set
    ∙ (ap (λ (bs : List ℕ). summary_checked_contents d.set.set c.set.schema bs) proof
    ∙ ap (λ (bs : Option (List ℕ)). summary_checked_contents d.set.set bs d.proof) schema)

-- what holds of the contents of files in one respect and in another holds of the same contents
record OfBoth {C : Type 0} (P Q : C → Type 0) : Type 0 where
  pub contents : C
  pub one : P contents
  pub other : Q contents

both_of : (files : Files) (fs : List FileName) {C : Type 0} (bytes : C → List (List ℕ)) → ((c d : C) → bytes c ≡ bytes d → c ≡ d)
    → (P Q : C → Type 0) → (held : Option Files) → held ≡ Some files → OfReadFiles (Some files) fs bytes P → OfReadFiles held fs bytes Q → OfBoth P Q
both_of files fs bytes once P Q held is accepted printed =
    let there = subst (λ (h : Option Files). AreRead h fs (bytes printed.contents)) is printed.read in
    let same = once printed.contents accepted.contents (same_read files fs (bytes printed.contents) (bytes accepted.contents) there accepted.read) in
    record { contents = accepted.contents; one = accepted.holds; other = subst Q same printed.holds }

-- ---- commands

-- the status is one of two, of which this holds
one_of_two : (P : Status → Type 0) (a b : Status) → P a → P b → (s : Status) → (s ≡ a) ⊎ (s ≡ b) → P s
one_of_two P a b at_a at_b s (inl is) = subst P (sym is) at_a
one_of_two P a b at_a at_b s (inr is) = subst P (sym is) at_b

summarised_decides : (s : Summarising) (certified : Bool) (c : SetContents) (p : Printed) → IsSummaryFor s certified c
    → IsSummaryPrintedFrom s certified c p → p.status ≡ status.Holds
summarised_decides s true c p accepted v = certified_summaries_decide s c p accepted v
summarised_decides s false c p accepted v = summaries_decide s c p accepted v

module _ (files : Files) (p : Printed) where
  may_decide : (asked : Asked) (r : Reading) → r.held ≡ Some files → IsAcceptedBy (Some files) asked → MayPrint asked r p → IsDecided (Some asked) p.status
  may_decide (CompareCommand c) r held d v =
      let both = both_of files (named_files (CompareCommand c)) compared_bytes compared_once _ _ r.held held d v in
      one_of_two (IsDecided (Some (CompareCommand c))) status.Holds status.Fails tt tt p.status (comparisons_decide c both.contents p both.one both.other)
  may_decide (CheckCommand c) r held d v =
      let both = both_of files (named_files (CheckCommand c)) checked_bytes checked_once _ _ r.held held d v in
      one_of_two (IsDecided (Some (CheckCommand c))) status.Holds status.BadProof tt tt p.status (checks_decide both.contents.proof both.contents.sets p both.one both.other)
  may_decide (SummaryCommand s certified) r held d v =
      let both = both_of files (named_files (SummaryCommand s certified)) one_set_bytes one_set_once _ _ r.held held d v in
      subst (IsDecided (Some (SummaryCommand s certified))) (sym (summarised_decides s certified both.contents p both.one both.other)) tt
  may_decide (EvalCommand e) r held d v =
      let both = both_of files (named_files (EvalCommand e)) evaluated_bytes evaluated_once _ _ r.held held d v in
      one_of_two (IsDecided (Some (EvalCommand e))) status.Holds status.Fails tt tt p.status (evaluations_decide both.contents p both.one both.other)
  may_decide (LoadCommand keys) r held d v = subst (IsDecided (Some (LoadCommand keys))) (sym v.prints.1) tt
  may_decide (IdleCommand u) r held d v =
      let both = both_of files (named_files (IdleCommand u)) one_set_bytes one_set_once _ _ r.held held d v in
      one_of_two (IsDecided (Some (IdleCommand u))) status.Holds status.Fails tt tt p.status (uses_decide u both.contents p both.one both.other)
  may_decide (ReachCommand s zone) r held d v =
      let both = both_of files (named_files (ReachCommand s zone)) reached_bytes reached_once _ _ r.held held d v in
      one_of_two (IsDecided (Some (ReachCommand s zone))) status.Holds status.Fails tt tt p.status (reaches_decide s both.contents p both.one both.other)
  may_decide (EmitCommand s) r held d v =
      let both = both_of files (named_files (EmitCommand s)) one_set_bytes one_set_once _ _ r.held held d v in
      subst (IsDecided (Some (EmitCommand s))) (sym (emits_decide s both.contents p both.one both.other)) tt
  may_decide (CheckSummaryCommand k) r held d v =
      let both = both_of files (named_files (CheckSummaryCommand k)) summary_checked_bytes summary_checked_once _ _ r.held held d v in
      one_of_two (IsDecided (Some (CheckSummaryCommand k))) status.Holds status.BadProof tt tt p.status (summary_checks_decide k both.contents.proof both.contents.set p both.one both.other)
  may_decide (NewAccessCommand s second certified) r held d v =
      let both = both_of files (named_files (NewAccessCommand s second certified)) compared_bytes compared_once _ _ r.held held d v in
      one_of_two (IsDecided (Some (NewAccessCommand s second certified))) status.Holds status.Fails tt tt p.status (new_access_decides s certified both.contents p both.one both.other)
  may_decide (CheckNewAccessCommand k second) r held d v =
      let both = both_of files (named_files (CheckNewAccessCommand k second)) checked_bytes checked_once _ _ r.held held d v in
      one_of_two (IsDecided (Some (CheckNewAccessCommand k second))) status.Holds status.BadProof tt tt p.status (new_access_checks_decide k both.contents.proof both.contents.sets p both.one both.other)
  may_decide NewAccessUsage r held d v = absurd d

  fails_not : (asked : Asked) (r : Reading) → r.held ≡ Some files → IsAcceptedBy (Some files) asked → ¬ Rose r.faults_before r.faults → FilesFail (named_files asked) r p → ⊥
  fails_not (CompareCommand c) r held d calm failing = none_fails r files (named_files (CompareCommand c)) (compared_bytes d.contents) p held d.read calm failing
  fails_not (CheckCommand c) r held d calm failing = none_fails r files (named_files (CheckCommand c)) (checked_bytes d.contents) p held d.read calm failing
  fails_not (SummaryCommand s certified) r held d calm failing = none_fails r files (named_files (SummaryCommand s certified)) (one_set_bytes d.contents) p held d.read calm failing
  fails_not (EvalCommand e) r held d calm failing = none_fails r files (named_files (EvalCommand e)) (evaluated_bytes d.contents) p held d.read calm failing
  fails_not (LoadCommand keys) r held d calm failing = none_fails r files [] [] p held tt calm failing
  fails_not (IdleCommand u) r held d calm failing = none_fails r files (named_files (IdleCommand u)) (one_set_bytes d.contents) p held d.read calm failing
  fails_not (ReachCommand s zone) r held d calm failing = none_fails r files (named_files (ReachCommand s zone)) (reached_bytes d.contents) p held d.read calm failing
  fails_not (EmitCommand s) r held d calm failing = none_fails r files (named_files (EmitCommand s)) (one_set_bytes d.contents) p held d.read calm failing
  fails_not (CheckSummaryCommand k) r held d calm failing = none_fails r files (named_files (CheckSummaryCommand k)) (summary_checked_bytes d.contents) p held d.read calm failing
  fails_not (NewAccessCommand s second certified) r held d calm failing = none_fails r files (named_files (NewAccessCommand s second certified)) (compared_bytes d.contents) p held d.read calm failing
  fails_not (CheckNewAccessCommand k second) r held d calm failing = none_fails r files (named_files (CheckNewAccessCommand k second)) (checked_bytes d.contents) p held d.read calm failing
  fails_not NewAccessUsage r held d calm failing = absurd d

held_decides : (held : Option Files) (asked : Asked) (r : Reading) (p : Printed) → r.held ≡ held → IsPrinted (Some asked) r p → IsAccepted held (Some asked) → ¬ Rose r.faults_before r.faults → IsDecided (Some asked) p.status
held_decides None asked r p is may accepted calm = absurd accepted
held_decides (Some files) asked r p is (inl failing) accepted calm = absurd (fails_not files p asked r is accepted calm failing)
held_decides (Some files) asked r p is (inr v) accepted calm = may_decide files p asked r is accepted v.0

none_accepted : (held : Option Files) → IsAccepted held None → ⊥
none_accepted None accepted = accepted
none_accepted (Some files) accepted = accepted

-- what is printed over accepted files without a fault of reading is of an answer of the command
pub printed_decides : (asked : Option Asked) (r : Reading) (p : Printed) → IsPrinted asked r p → IsAccepted r.held asked → ¬ Rose r.faults_before r.faults → IsDecided asked p.status
printed_decides None r p may accepted calm = absurd (none_accepted r.held accepted)
printed_decides (Some asked) r p may accepted calm = held_decides r.held asked r p refl may accepted calm
