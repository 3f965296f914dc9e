-- Findings that plainly have nobody.
use Rattle.std.specs.Prelude.{◌⊎◌, ℕ, List, Contains}
use Rattle.policy_model.specs.declared.schema.Schema.{Schema}
use Rattle.strata.specs.declared.stratum.Strata.{Strata}
use Rattle.findings.specs.declared.known.KnownAnswers.{KnownAnswers}
use Rattle.findings.specs.declared.region.Region.{Region}
use Rattle.findings.specs.Findings.{HasNobody, IsFinding}
use Rattle.findings.specs.RegionQueries.{AsksRegion}
use Rattle.findings.specs.KnownAnswers.{IsMetTable}

-- of whichever region the query is, the finding has nobody
abbrev pub HasPlainlyNobody : KnownAnswers → List ℕ → Type 0
HasPlainlyNobody known f =
    (schema : Schema) (region : Region) (strata : Strata) → AsksRegion schema region known.less.query strata →
    IsMetTable schema strata known → IsFinding strata.dimensions f → HasNobody schema region strata.dimensions f

-- some of the findings are kept, and each of the others plainly has nobody
pub record DropsPlainlyEmpty (known : KnownAnswers) (fs kept : List (List ℕ)) : Type 0 where
  pub only : (f : List ℕ) → Contains kept f → Contains fs f
  pub others : (f : List ℕ) → Contains fs f → Contains kept f ⊎ HasPlainlyNobody known f
