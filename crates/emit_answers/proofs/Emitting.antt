-- The policy of what was found says what was found.
use Rattle.std.proofs.Common.{◌≡◌, ◌⊎◌, ◌<◌, ◌≤◌, ℕ, List, Ok, Err, Option, inl, inr, length, refl, subst, sym}
use Rattle.std.specs.Prelude.{String, string_bytes}
use Rattle.std.specs.declared.alloc.Global.{Global}
use Rattle.std.proofs.lemmas.List.{length-map}
use Rattle.findings.specs.declared.region.Region.TheVariants.{AllowedBy}
use Rattle.findings.specs.Laws.{SummariesCover}
use Rattle.findings.specs.Summaries.{findings_of}
use Rattle.policy_emit.specs.declared.fault.EmitFault.TheVariants.{TooManyStatements}
use Rattle.policy_emit.specs.Emitted.{IsEmitted, emitted_set}
use Rattle.policy_emit.specs.KnownKeys.{EmittedKeysAreKnown}
use Rattle.policy_emit.specs.Laws.{EmittedSetsAllowFindings, IsReadAsEmitted}
use Rattle.policy_json.specs.declared.statement.TheConstants.{MOST_STATEMENTS}
use Rattle.policy_model.specs.declared.request.Request.{Request}
use Rattle.policy_model.specs.declared.schema.Schema.{Schema}
use Rattle.summary_search.specs.declared.outcome.Limits.{Limits}
use Rattle.read_predicates.specs.Laws.{AreMadeFromFile}
use Rattle.run_inputs.specs.declared.printed.Printed.{Printed}
use Rattle.run_inputs.specs.declared.status.Status.TheVariants.{Holds, Refused}
use Rattle.run_inputs.specs.Printing.{PrintsText}
use Rattle.run_inputs.specs.declared.one_set.OneSet.{OneSet}
use Rattle.run_inputs.specs.OneSets.{IsOneSetOf, SomeReadSet, SomeSetRun, one_of}
use Rattle.summary_answers.specs.declared.answer.Found.{Found}
use Rattle.summary_answers.specs.declared.subject.Subject.{Subject}
use Rattle.summary_answers.specs.Found.{IsFoundOf}
use Rattle.summary_answers.specs.Subjects.{subject_of_set}
use Rattle.emit_answers.specs.EmitPrinted.{HasNoPolicy, HasPolicy, IsFoundEmitted, IsOfFile, IsPolicyPrinted, SaysFindings, many_findings_line, policy_of}

-- ---- what is printed of what was found

count : (found : Found) → length (findings_of found.summary) ≡ length found.summary
count found = length-map found.summary (λ (p : List ℕ × Request). p.0)

pub policy-printed : (schema : Schema) (found : Found) (text : String Global) → IsEmitted schema found.strata.dimensions (findings_of found.summary) (Ok text) → IsReadAsEmitted schema found.strata (findings_of found.summary) (string_bytes text) → (p : Printed) → PrintsText (string_bytes text) Holds p → IsPolicyPrinted schema found p
policy-printed schema found text is read p told = inr (record {
  few = subst (λ (n : ℕ). n ≤ MOST_STATEMENTS) (count found) is.0;
  prints = subst (λ (t : List ℕ). PrintsText t Holds p) is.1 told;
  read = subst (IsReadAsEmitted schema found.strata (findings_of found.summary)) is.1 read;
})

pub none-printed : (schema : Schema) (found : Found) → IsEmitted schema found.strata.dimensions (findings_of found.summary) (Err TooManyStatements) → (p : Printed) → PrintsText many_findings_line Refused p → IsPolicyPrinted schema found p
none-printed schema found many p told = inl (record {
  many = subst (λ (n : ℕ). MOST_STATEMENTS < n) (count found) many;
  prints = told;
})

-- ---- what the policy says

module _ (covers : SummariesCover) (allow : EmittedSetsAllowFindings) (known : EmittedKeysAreKnown) where
  says-findings : (names : List (List ℕ)) (limits : Limits) (named : Schema) (one : OneSet) (found : Found) → IsFoundOf names limits (subject_of_set one) found → IsOfFile named one → IsReadAsEmitted one.schema found.strata (findings_of found.summary) (policy_of one.schema found) → SaysFindings named one found (policy_of one.schema found)
  says-findings names limits named one found is of read =
      let fs = findings_of found.summary in
      let from : AreMadeFromFile one.schema found.strata = record { region = AllowedBy one.set; files = record { bytes = of.bytes; stands = of.stands }; base = found.query; made = is.made } in
      record {
        set = emitted_set one.schema found.strata.dimensions fs;
        stands = read from;
        allows = λ r valid. allow one.schema one.set found.query found.strata fs is.made r valid;
        covers = λ r valid allowed.
            (allow one.schema one.set found.query found.strata fs is.made r valid).1
            (covers one.schema (AllowedBy one.set) found.strata found.summary (record { base = found.query; made = is.made; is = is.summary }) r valid allowed);
        runs = known named one.schema one.set found.query found.strata fs of.run is.made;
      }

  has-policy : (names : List (List ℕ)) (limits : Limits) (named : Schema) (one : OneSet) (found : Found) → IsFoundOf names limits (subject_of_set one) found → IsOfFile named one → (p : Printed) → IsPolicyPrinted one.schema found p → HasNoPolicy found p ⊎ HasPolicy named one found p
  has-policy names limits named one found is of p (inl many) = inl many
  has-policy names limits named one found is of p (inr text) = inr (record {
    few = text.few;
    prints = text.prints;
    says = says-findings names limits named one found is of text.read;
  })

  -- of the subject that is the set's
  pub emits-found : (names : List (List ℕ)) (limits : Limits) (named : Schema) (subject : Subject) (one : OneSet) (found : Found) → subject ≡ subject_of_set one → IsFoundOf names limits subject found → IsOfFile named one → (p : Printed) → IsPolicyPrinted subject.schema found p → IsFoundEmitted names limits named one p
  emits-found names limits named subject one found same is of p printed =
      let own : IsFoundOf names limits (subject_of_set one) found = subst (λ (x : Subject). IsFoundOf names limits x found) same is in
      let here : IsPolicyPrinted one.schema found p = subst (λ (x : Subject). IsPolicyPrinted x.schema found p) same printed in
      record { found = found; is = own; emits = has-policy names limits named one found own of p here }

-- ---- files

-- the set that files stand for is one of a file, under the schema of its run
pub of-file : (set : List ℕ) (schema : Option (List ℕ)) (one : OneSet) → (of : IsOneSetOf set schema one) → IsOfFile of.named one
of-file set schema one of =
    let there : IsOfFile of.named (one_of of.named of.set) = record { bytes = set; stands = of.set_stands; run = (of.holds.answered, refl) } in
    subst (IsOfFile of.named) of.holds.holds there

-- and what holds of it under the named keys holds of the files
pub of-named : (set : List ℕ) (schema : Option (List ℕ)) (one : OneSet) (P : Schema → OneSet → Type 0) → (of : IsOneSetOf set schema one) → P of.named one → SomeReadSet set schema (λ named s. SomeSetRun named s (P named))
of-named set schema one P of here = record {
  named = of.named;
  set = of.set;
  schema_stands = of.schema_stands;
  set_stands = of.set_stands;
  holds = record { answered = of.holds.answered; holds = subst (P of.named) (sym of.holds.holds) here };
}
