-- What may be printed where a policy is asked for that is written from the findings of a set.
use Rattle.std.specs.Prelude.{◌≡◌, ◌⊎◌, ◌≤◌, ◌<◌, ◌↔◌, ℕ, List, length, codes, Any, None, Result, Ok}
use Rattle.command_words.specs.Asked.{Summarising}
use Rattle.findings.specs.Findings.{LiesInFinding}
use Rattle.findings.specs.Summaries.{findings_of}
use Rattle.policy_emit.specs.Emitted.{policy_text}
use Rattle.policy_emit.specs.Laws.{IsReadAsEmitted}
use Rattle.policy_json.specs.declared.statement.TheConstants.{MOST_STATEMENTS}
use Rattle.policy_model.specs.declared.request.Request.{Request}
use Rattle.policy_model.specs.declared.schema.Schema.{Schema}
use Rattle.policy_model.specs.declared.set.PolicySet.{PolicySet}
use Rattle.policy_model.specs.Requests.{IsValid}
use Rattle.policy_model.specs.Sets.{Allows}
use Rattle.read_predicates.specs.KnownKeys.{IsInferredOfBoth}
use Rattle.request_schema.specs.RunSchemas.{IsInferred}
use Rattle.summary_search.specs.declared.outcome.Limits.{Limits}
use Rattle.run_inputs.specs.declared.printed.EarlyEnd.{EarlyEnd}
use Rattle.run_inputs.specs.declared.printed.Printed.{Printed}
use Rattle.run_inputs.specs.declared.status.Status.TheVariants.{Holds, Refused}
use Rattle.run_inputs.specs.Printing.{IfPrinted, PrintsText}
use Rattle.run_inputs.specs.declared.one_set.OneSet.{OneSet}
use Rattle.run_inputs.specs.OneSets.{IsOneSetRefusal, SomeReadSet, SomeSetRun, SetContents}
use Rattle.run_inputs.specs.Refusals.{IsRefusedBy}
use Rattle.run_inputs.specs.Standing.{StandsFor}
use Rattle.summary_answers.specs.declared.answer.Found.{Found}
use Rattle.summary_answers.specs.Found.{IsFoundOf, IsNotFound}
use Rattle.summary_answers.specs.declared.subject.Subject.{Subject}
use Rattle.summary_answers.specs.Printed.{limits_in}
use Rattle.summary_answers.specs.Subjects.{subject_of_set}

-- ---- what a policy says

-- the request lies in some finding
abbrev pub LiesInSome : Request → Found → Type 0
LiesInSome r found = Any (LiesInFinding r found.strata.dimensions) (findings_of found.summary)

-- The text is read without a fault, as a set of policies that says what was found of a set: of the valid requests it allows those that
-- lie in some finding and no others, and so whatever the set allows. A run on the set and on it, in either order, has no fault, and
-- its schema is that of the run on the set alone
pub record SaysFindings (named : Schema) (one : OneSet) (found : Found) (text : List ℕ) : Type 0 where
  pub set : PolicySet
  pub stands : StandsFor text set
  pub allows : (r : Request) → IsValid one.schema r → Allows one.schema set r ↔ LiesInSome r found
  pub covers : (r : Request) → IsValid one.schema r → Allows one.schema one.set r → Allows one.schema set r
  pub runs : IsInferredOfBoth named one.set set one.schema

-- ---- what is printed

-- the line on more findings than statements may stand in a set
abbrev pub many_findings_line : List ℕ
many_findings_line = codes "refused: query: P17 Limit: document 0, statement 0, \"findings\"\n"

-- the policy of what was found
abbrev pub policy_of : Schema → Found → List ℕ
policy_of schema found = policy_text schema found.strata.dimensions (findings_of found.summary)

-- what was found has more findings than statements may stand in a set, and so has no policy
pub record HasNoPolicy (found : Found) (p : Printed) : Type 0 where
  pub many : MOST_STATEMENTS < length found.summary
  pub prints : PrintsText many_findings_line Refused p

-- its policy is printed, and says what was found
pub record HasPolicy (named : Schema) (one : OneSet) (found : Found) (p : Printed) : Type 0 where
  pub few : length found.summary ≤ MOST_STATEMENTS
  pub prints : PrintsText (policy_of one.schema found) Holds p
  pub says : SaysFindings named one found (policy_of one.schema found)

-- of a set with findings: that there are too many, or their policy
pub record IsFoundEmitted (names : List (List ℕ)) (limits : Limits) (named : Schema) (one : OneSet) (p : Printed) : Type 0 where
  pub found : Found
  pub is : IsFoundOf names limits (subject_of_set one) found
  pub emits : HasNoPolicy found p ⊎ HasPolicy named one found p

-- of a set under the schema of its run: why it isn't summarised, or what is printed of its findings
abbrev pub IsSetEmitted : List (List ℕ) → Limits → Schema → OneSet → Printed → Type 0
IsSetEmitted names limits named one p = IsNotFound names limits (subject_of_set one) p ⊎ IsFoundEmitted names limits named one p

-- of files: why they stand for no set, or what is printed of the set that they stand for
abbrev pub IsEmitPrinted : Summarising → SetContents → Printed → Type 0
IsEmitPrinted e c p =
    IsRefusedBy (IsOneSetRefusal c.set c.schema) p
    ⊎ SomeReadSet c.set c.schema (λ named set. SomeSetRun named set (λ one. IsSetEmitted e.dimensions (limits_in e) named one p))

-- ---- parts

-- what is printed of what was found: that there are too many findings, or the policy, which is read as the set of their statements where
-- the strata are those of a set that a file stands for
pub record HasPolicyText (schema : Schema) (found : Found) (p : Printed) : Type 0 where
  pub few : length found.summary ≤ MOST_STATEMENTS
  pub prints : PrintsText (policy_of schema found) Holds p
  pub read : IsReadAsEmitted schema found.strata (findings_of found.summary) (policy_of schema found)

abbrev pub IsPolicyPrinted : Schema → Found → Printed → Type 0
IsPolicyPrinted schema found p = HasNoPolicy found p ⊎ HasPolicyText schema found p

-- some file stands for the set, and its schema is that of a run on it under the named keys
pub record IsOfFile (named : Schema) (one : OneSet) : Type 0 where
  pub bytes : List ℕ
  pub stands : StandsFor bytes one.set
  pub run : IsInferred named one.set None (Ok one.schema)

-- as above, whichever set is the subject's, and whichever keys were named
abbrev pub EmitsOf : List (List ℕ) → Limits → Subject → Result Printed EarlyEnd → Type 0
EmitsOf names limits subject result =
    (named : Schema) (one : OneSet) → subject ≡ subject_of_set one → IsOfFile named one →
    IfPrinted result (IsSetEmitted names limits named one)
