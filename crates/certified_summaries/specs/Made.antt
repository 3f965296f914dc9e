-- The strata of a region by dimensions, or what is printed instead.
use Rattle.std.specs.Prelude.{◌⊎◌, ◌<◌, ⊤, ℕ, List, [], length, get_or, Contains, Err}
use Rattle.std.specs.Str.{chars}
use Rattle.policy_compile.specs.declared.outcome.Query.{Query}
use Rattle.policy_compile.specs.Queries.{IsQuery}
use Rattle.policy_model.specs.declared.test.Slot.{Slot}
use Rattle.strata.specs.declared.outcome.StrataFault.{StrataFault}
use Rattle.strata.specs.declared.outcome.StrataFault.TheVariants.{TooManyPredicates, Wide, NoMemory}
use Rattle.strata.specs.declared.stratum.Strata.{Strata}
use Rattle.strata.specs.declared.stratum.Stratum.{Stratum}
use Rattle.strata.specs.Causes.{AreStrataOf, NamesWide}
use Rattle.summary_search.specs.Outcomes.{AreStrataWithin}
use Rattle.run_inputs.specs.declared.printed.Printed.{Printed}
use Rattle.run_inputs.specs.declared.status.Status.TheVariants.{Refused, Undecided}
use Rattle.run_inputs.specs.Printing.{PrintsText}
use Rattle.run_inputs.specs.declared.shortage.Shortage.TheVariants.{States}
use Rattle.run_inputs.specs.Parts.{shortage_text}
use Rattle.run_inputs.specs.Refusals.{IsRefusedBy}
use Rattle.summary_answers.specs.declared.subject.Subject.{Subject}
use Rattle.summary_answers.specs.Dimensions.{IsUnknownPrinted, NameSlots, dimension_slots}
use Rattle.summary_answers.specs.FindingTexts.{too_many_line}
use Rattle.run_inputs.specs.PastLimits.{IsPlanPastLimit}
use Rattle.summary_answers.specs.Subjects.{subject_plan}
use Rattle.findings.specs.Queries.{AreMadeFor}
use Rattle.certified_summaries.specs.declared.made.Made.{Made}

-- each name is that of a dimension, the query is that of the region, and the strata are made for it by these dimensions. None of them
-- names more predicates than so many
pub record IsMadeOf (names : List (List ℕ)) (most : ℕ) (subject : Subject) (query : Query) (strata : Strata) : Type 0 where
  pub known : NameSlots subject.schema names
  pub made : AreMadeFor subject.schema subject.region query strata
  pub within : AreStrataWithin most subject.schema query (dimension_slots names) strata

-- some query of the region has strata whose dimensions satisfy P
pub record OfMade (names : List (List ℕ)) (most : ℕ) (subject : Subject) (P : List Stratum → Type 0) : Type 0 where
  pub query : Query
  pub strata : Strata
  pub is : IsMadeOf names most subject query strata
  pub holds : P strata.dimensions

-- two predicates of no dimension have patterns with more product states
abbrev pub AreNarrow : List (List ℕ) → ℕ → Subject → Type 0
AreNarrow names states subject =
    (q : Query) → IsQuery (subject_plan subject) q → (s : Slot) (texts : List (List ℕ)) →
    Contains (dimension_slots names) s → ¬ NamesWide subject.schema q.tests states s texts

-- the line on why there are none: a dimension with too many named predicates is refused, and a number of states that is too small
-- for two predicates leaves them unmade
abbrev pub PrintsUnmade : List (List ℕ) → ℕ → StrataFault → Printed → Type 0
PrintsUnmade names states (TooManyPredicates d) p = PrintsText (too_many_line (chars (get_or names d []))) Refused p
PrintsUnmade names states (Wide s texts) p = PrintsText (shortage_text (States states s)) Undecided p
PrintsUnmade names states NoMemory p = ⊥

-- the strata of a query of the region aren't made, for which this is the cause, and its line is printed
pub record IsUnmade (names : List (List ℕ)) (most states : ℕ) (subject : Subject) (p : Printed) : Type 0 where
  pub query : Query
  pub is : IsQuery (subject_plan subject) query
  pub fault : StrataFault
  pub cause : AreStrataOf most subject.schema states query (dimension_slots names) (Err fault)
  pub prints : PrintsUnmade names states fault p

-- the first name of no dimension; or the limit that the query of the region is past, or why there are no strata
abbrev pub IsNotMade : List (List ℕ) → ℕ → ℕ → Subject → Printed → Type 0
IsNotMade names most states subject p =
    IsUnknownPrinted subject.schema names p
    ⊎ (NameSlots subject.schema names × (IsRefusedBy (IsPlanPastLimit (subject_plan subject)) p ⊎ IsUnmade names most states subject p))

-- ---- parts

-- the query and the strata are such
abbrev pub IsMade : List (List ℕ) → ℕ → Subject → Made → Type 0
IsMade names most subject made = IsMadeOf names most subject made.query made.strata

-- the fault's dimension is among the named ones
abbrev pub HasDimension : List (List ℕ) → StrataFault → Type 0
HasDimension names (TooManyPredicates d) = d < length names
HasDimension names (Wide s texts) = ⊤
HasDimension names NoMemory = ⊤
