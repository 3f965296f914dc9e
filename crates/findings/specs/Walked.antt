-- What the steps of a walk are asked and leave.
use Rattle.std.specs.Prelude.{◌≡◌, ◌⊎◌, ◌++◌, ◌∷◌, [], ⊤, ℕ, List, All, Contains, Option, Some, None, ◌+◌, length, map}
use Rattle.std.specs.Cmp.Lexicographic.{slice_cmp}
use Rattle.std.specs.BTreeMap.{insert_entry}
use Rattle.std.specs.Ordering.{nat_cmp}
use Rattle.policy_model.specs.declared.request.Request.{Request}
use Rattle.policy_model.specs.declared.schema.Schema.{Schema}
use Rattle.policy_compile.specs.declared.outcome.Query.{Query}
use Rattle.strata.specs.declared.stratum.Strata.{Strata}
use Rattle.strata.specs.declared.stratum.Stratum.{Stratum}
use Rattle.findings.specs.declared.outcome.SummaryFault.{SummaryFault}
use Rattle.findings.specs.declared.outcome.SummaryFault.TheVariants as fault
use Rattle.findings.specs.declared.region.Region.{Region}
use Rattle.findings.specs.declared.known.KnownAnswers.{KnownAnswers}
use Rattle.findings.specs.declared.walk.Walk.{Walk}
use Rattle.findings.specs.Answers.{FailsAtFinding, SplitsFail, StatesFail}
use Rattle.findings.specs.Findings.{IsFinding}
use Rattle.findings.specs.Nobody.{KeepsInhabited}
use Rattle.findings.specs.Queries.{AreMadeFor}
use Rattle.findings.specs.RegionQueries.{AsksRegion}
use Rattle.findings.specs.Steps.{AddUnder}
use Rattle.findings.specs.Walks.{AreAboveIn, IsWalk, first_finding}

-- the findings that were found, each with its request, in the order of their numbers
abbrev pub found_by : Walk → List (List ℕ × Request)
found_by w = map (λ e. (e.0.items, e.1)) w.found.entries

-- with one more, which goes to its place in the order
abbrev pub with_found : List (List ℕ × Request) → List ℕ → Request → List (List ℕ × Request)
with_found found f r = insert_entry (slice_cmp nat_cmp) found f r

-- each of these is a finding
abbrev pub AreFindings : List Stratum → List (List ℕ) → Type 0
AreFindings ds list = (f : List ℕ) → Contains list f → IsFinding ds f

-- the first finding is to come, and nothing was looked at
pub record StartsAt (ds : List Stratum) (w : Walk) : Type 0 where
  pub coming : w.coming.items ≡ first_finding ds ∷ []
  pub looked : w.looked.keys ≡ []
  pub reducible : w.reducible.keys ≡ []
  pub found : w.found.entries ≡ []

-- the finding is to be looked at now: it wasn't yet, and each one that it is right under has no request of its own
pub record IsDue (ds : List Stratum) (w : Walk) (f : List ℕ) : Type 0 where
  pub new : ¬ Contains w.looked.keys f
  pub above : AreAboveIn ds w.reducible.keys f

-- it isn't: it was looked at, or one that it is right under may have a request of its own
abbrev pub IsPassedFinding : List Stratum → Walk → List ℕ → Type 0
IsPassedFinding ds w f = Contains w.looked.keys f ⊎ ¬ AreAboveIn ds w.reducible.keys f

-- the findings to come are those before the passed ones, without the next
pub record PassesTo (ds : List Stratum) (old : Walk) (left : List (List ℕ)) : Type 0 where
  pub passed : List (List ℕ)
  pub is : old.coming.items ≡ left ++ passed
  pub each : All (IsPassedFinding ds old) passed

-- the next finding is due, and those after it were passed; or all were
abbrev pub IsNextFinding : List Stratum → Walk → Walk → Option (List ℕ) → Type 0
IsNextFinding ds old new (Some f) = PassesTo ds old (new.coming.items ++ f ∷ []) × IsDue ds old f
IsNextFinding ds old new None = PassesTo ds old [] × (new.coming.items ≡ [])

-- but for what is to come the walks are the same
pub record SameBesides (old new : Walk) : Type 0 where
  pub looked : new.looked.keys ≡ old.looked.keys
  pub reducible : new.reducible.keys ≡ old.reducible.keys
  pub found : new.found.entries ≡ old.found.entries

-- as a walk goes on, so many findings that were to come are left out, all of them passed
pub record IsPassing (ds : List Stratum) (old now : Walk) (n : ℕ) : Type 0 where
  pub passes : PassesTo ds old now.coming.items
  pub same : SameBesides old now
  pub count : n + length now.coming.items ≡ length old.coming.items

-- the finding was looked at, and was found with the request
pub record AddsFound (old : Walk) (f : List ℕ) (r : Request) (new : Walk) : Type 0 where
  pub coming : new.coming.items ≡ old.coming.items
  pub looked : ¬ Contains old.looked.keys f → new.looked.keys ≡ old.looked.keys ++ f ∷ []
  pub reducible : new.reducible.keys ≡ old.reducible.keys
  pub found : found_by new ≡ with_found (found_by old) f r

-- the finding was looked at, and these are to come
pub record AddsReducible (old : Walk) (f : List ℕ) (more : List (List ℕ)) (new : Walk) : Type 0 where
  pub coming : new.coming.items ≡ old.coming.items ++ more
  pub looked : ¬ Contains old.looked.keys f → new.looked.keys ≡ old.looked.keys ++ f ∷ []
  pub reducible : ¬ Contains old.reducible.keys f → new.reducible.keys ≡ old.reducible.keys ++ f ∷ []
  pub found : new.found.entries ≡ old.found.entries

-- the finding was looked at, and those right under it that may have somebody are to come
pub record GoesBelowFor (schema : Schema) (region : Region) (ds : List Stratum) (old : Walk) (f : List ℕ) (new : Walk) : Type 0 where
  pub under : List (List ℕ)
  pub are : AddUnder ds f [] under
  pub kept : List (List ℕ)
  pub inhabited : KeepsInhabited schema region ds under kept
  pub adds : AddsReducible old f kept new

-- of whichever region the strata are
abbrev pub GoesBelow : Schema → KnownAnswers → Strata → Walk → List ℕ → Walk → Type 0
GoesBelow schema known strata old f new =
    (region : Region) → AsksRegion schema region known.less.query strata → GoesBelowFor schema region strata.dimensions old f new

-- the walk stands so for the region, and the finding, which was taken from those to come, is due
pub record IsTakenFor (schema : Schema) (region : Region) (ds : List Stratum) (w : Walk) (f : List ℕ) : Type 0 where
  pub walk : IsWalk schema region ds (w.coming.items ++ f ∷ []) w.looked.keys w.reducible.keys (found_by w)
  pub due : IsDue ds w f

-- of whichever region the strata are
abbrev pub IsTaken : Schema → Query → Strata → Walk → List ℕ → Type 0
IsTaken schema base strata w f =
    (region : Region) → AreMadeFor schema region base strata → IsTakenFor schema region strata.dimensions w f

abbrev pub StandsAt : Schema → Query → Strata → Walk → Type 0
StandsAt schema base strata w =
    (region : Region) → AreMadeFor schema region base strata →
    IsWalk schema region strata.dimensions w.coming.items w.looked.keys w.reducible.keys (found_by w)

-- so many findings were looked at
pub record HasLookedAt (schema : Schema) (base : Query) (strata : Strata) (w : Walk) (n : ℕ) : Type 0 where
  pub stands : StandsAt schema base strata w
  pub count : length w.looked.keys ≡ n

-- why a finding couldn't be looked at
abbrev pub FailsFor : Schema → Region → List Stratum → ℕ → ℕ → SummaryFault → Type 0
FailsFor schema region ds splits states fault.OutOfFindings = ⊥
FailsFor schema region ds splits states (fault.OutOfSplits f) = FailsAtFinding schema region ds f (λ q. SplitsFail schema q splits)
FailsFor schema region ds splits states (fault.OutOfStates f w) =
    FailsAtFinding schema region ds f (λ q. StatesFail schema q states w)
FailsFor schema region ds splits states fault.NoMemory = ⊤

abbrev pub LookFails : Schema → Query → Strata → ℕ → ℕ → SummaryFault → Type 0
LookFails schema base strata splits states e =
    (region : Region) → AreMadeFor schema region base strata → FailsFor schema region strata.dimensions splits states e
