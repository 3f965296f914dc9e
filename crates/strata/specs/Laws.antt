-- What follows from the definitions of strata.
use Rattle.std.specs.Prelude.{◌≡◌, List}
use Rattle.policy_model.specs.declared.schema.Schema.{Schema}
use Rattle.policy_model.specs.declared.test.Slot.{Slot}
use Rattle.policy_compile.specs.declared.outcome.Query.{Query}
use Rattle.strata.specs.declared.names.TheConstants.{MOST_PREDICATES}
use Rattle.strata.specs.declared.stratum.Strata.{Strata}
use Rattle.strata.specs.Strata.{AreStrata}

-- two strata of the slots of a query under a schema are the same: their slots, their predicates and their order are equal
abbrev pub StrataAreDetermined : Type 0
StrataAreDetermined =
    (schema : Schema) (query : Query) (slots : List Slot) (one other : Strata) →
    AreStrata schema query slots one → AreStrata schema query slots other → one ≡ other

-- `strata` allows 128 predicates in a dimension
abbrev pub StrataLimits : Type 0
StrataLimits = MOST_PREDICATES ≡ 128
