-- What holds of the predicates of sets that files give, and of their texts.
use Rattle.std.specs.Prelude.{◌≡◌, ℕ, List, Ok}
use Rattle.policy_model.specs.declared.schema.Schema.{Schema}
use Rattle.policy_model.specs.declared.set.PolicySet.{PolicySet}
use Rattle.policy_model.specs.declared.test.Slot.{Slot}
use Rattle.policy_compile.specs.declared.outcome.Query.{Query}
use Rattle.policy_json.specs.Sets.{set_from}
use Rattle.strata.specs.declared.predicate.Predicate.{Predicate}
use Rattle.strata.specs.declared.stratum.Strata.{Strata}
use Rattle.findings.specs.declared.region.Region.{Region}
use Rattle.findings.specs.declared.region.Region.TheVariants.{AllowedBy, NewlyAllowed}
use Rattle.findings.specs.Findings.{IsFinding}
use Rattle.findings.specs.Queries.{AreMadeFor}
use Rattle.findings.specs.Texts.{finding_text, predicate_text}
use Rattle.read_predicates.specs.WrittenForms.{AreOfWrittenForms, IsWrittenForm}

-- some file stands for the set
pub record IsSetOfFile (set : PolicySet) : Type 0 where
  pub bytes : List ℕ
  pub stands : set_from bytes ≡ Ok set

-- and for each set of the region
abbrev pub IsRegionOfFiles : Region → Type 0
IsRegionOfFiles (AllowedBy set) = IsSetOfFile set
IsRegionOfFiles (NewlyAllowed first second) = IsSetOfFile first × IsSetOfFile second

-- the strata are those of the query of such a region under the schema
pub record AreMadeFromFile (schema : Schema) (strata : Strata) : Type 0 where
  pub region : Region
  pub files : IsRegionOfFiles region
  pub base : Query
  pub made : AreMadeFor schema region base strata

-- their predicates are of written forms
abbrev pub PredicatesAreOfWrittenForms : Type 0
PredicatesAreOfWrittenForms =
    (schema : Schema) (strata : Strata) → AreMadeFromFile schema strata → AreOfWrittenForms strata.dimensions

-- two predicates of one slot that are of written forms are equal where their texts are
abbrev pub PredicatesAreWrittenApart : Type 0
PredicatesAreWrittenApart =
    (s : Slot) (p q : Predicate) → IsWrittenForm s p → IsWrittenForm s q → predicate_text p ≡ predicate_text q → p ≡ q

-- two findings of strata that were made for sets of files are equal where their texts are
abbrev pub FindingsAreWrittenApart : Type 0
FindingsAreWrittenApart =
    (schema : Schema) (strata : Strata) → AreMadeFromFile schema strata →
    (f g : List ℕ) → IsFinding strata.dimensions f → IsFinding strata.dimensions g →
    finding_text strata.dimensions f ≡ finding_text strata.dimensions g → f ≡ g
