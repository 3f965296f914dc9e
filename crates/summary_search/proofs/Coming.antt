-- What strata and findings come to is what a summary comes to.
use Rattle.std.proofs.Common.{◌≡◌, ◌<◌, ◌^◌, ℕ, List, subst}
use Rattle.std.specs.Prelude.{All, Result}
use Rattle.policy_model.specs.declared.request.Request.{Request}
use Rattle.policy_model.specs.declared.schema.Schema.{Schema}
use Rattle.policy_model.specs.declared.test.Slot.{Slot}
use Rattle.policy_model.specs.Requests.{HasValidRequest}
use Rattle.policy_model.specs.Soundness.{TestSuits}
use Rattle.policy_compile.specs.declared.outcome.Query.{Query}
use Rattle.policy_compile.specs.Laws.{TestsOfQueriesSuit, TestsOfSetQueriesSuit}
use Rattle.strata.specs.declared.stratum.Strata.{Strata}
use Rattle.findings.specs.declared.outcome.SummaryFault.{SummaryFault}
use Rattle.findings.specs.declared.region.Region.{Region}
use Rattle.findings.specs.declared.region.Region.TheVariants.{AllowedBy, NewlyAllowed}
use Rattle.findings.specs.Answers.{IsSummarised}
use Rattle.findings.specs.Queries.{AreMadeFor}
use Rattle.summary_search.specs.declared.outcome.Limits.{Limits}
use Rattle.summary_search.specs.Outcomes.{AreAskable, AreStrataWithin, IsQueryOfRegion}

-- the tests of a region's query suit a schema that fits it
pub suits : TestsOfSetQueriesSuit → TestsOfQueriesSuit → (schema : Schema) (region : Region) (query : Query) → IsQueryOfRegion schema region query → All (TestSuits schema) query.tests
suits one two schema (AllowedBy set) query of = one schema set query.tests of.fits of.is.tests
suits one two schema (NewlyAllowed first second) query of = two schema first second query.tests of.fits.0 of.fits.1 of.is.tests

-- what findings are asked of
pub made-for : (most : ℕ) (schema : Schema) (region : Region) (query : Query) (slots : List Slot) (strata : Strata) → most < 2 ^ 32 → HasValidRequest schema → AreAskable schema slots → IsQueryOfRegion schema region query → AreStrataWithin most schema query slots strata → AreMadeFor schema region query strata
made-for most schema region query slots strata small some askable of within = record {
  fits = of.fits;
  sound = askable.sound;
  has_request = some;
  query = of.is;
  slots = slots;
  differ = askable.differ;
  known = askable.known;
  most = most;
  few = small;
  named = within.few;
  are = within.are;
}

-- what findings come to, of whoever answers within the limits
pub come : (schema asked : Schema) (region : Region) (query : Query) (strata : Strata) (limits : Limits) (splits states : ℕ) (result : Result (List (List ℕ × Request)) SummaryFault) →
    asked ≡ schema → splits ≡ limits.splits → states ≡ limits.states → AreMadeFor schema region query strata →
    (AreMadeFor asked region query strata → IsSummarised asked region strata.dimensions splits states limits.findings result) → IsSummarised schema region strata.dimensions limits.splits limits.states limits.findings result
come schema asked region query strata limits splits states result same few narrow made told =
    let P : Schema → ℕ → ℕ → Type 0 = λ s m n. AreMadeFor s region query strata → IsSummarised s region strata.dimensions m n limits.findings result in
    let one : P schema splits states = subst (λ (s : Schema). P s splits states) same told in
    let two : P schema limits.splits states = subst (λ (m : ℕ). P schema m states) few one in
    let three : P schema limits.splits limits.states = subst (λ (n : ℕ). P schema limits.splits n) narrow two in
    three made

-- the same of a result that is known
pub come-to : (schema : Schema) (region : Region) (strata : Strata) (limits : Limits) (result known : Result (List (List ℕ × Request)) SummaryFault) → result ≡ known →
    IsSummarised schema region strata.dimensions limits.splits limits.states limits.findings result → IsSummarised schema region strata.dimensions limits.splits limits.states limits.findings known
come-to schema region strata limits result known is told = subst (λ (x : Result (List (List ℕ × Request)) SummaryFault). IsSummarised schema region strata.dimensions limits.splits limits.states limits.findings x) is told
