-- Queries of a region, and whose a finding is by them.
use Rattle.std.proofs.Common.{◌≡◌, ◌↔◌, ℕ, ◌<◌, ◌^◌, Bool, List, [], ◌∷◌, Option, Some, length, sym, ap, subst, ◌∙◌}
use Rattle.std.specs.Prelude.{All, IfSome, IsTrue}
use Rattle.std.proofs.lemmas.List.Elements.{All-append, All-nil}
use Rattle.formula_tree.specs.Values.{holds}
use Rattle.policy_model.specs.declared.request.Request.{Request}
use Rattle.policy_model.specs.declared.schema.Schema.{Schema}
use Rattle.policy_model.specs.declared.test.Test.{Test}
use Rattle.policy_model.specs.Soundness.{TestSuits}
use Rattle.policy_compile.specs.declared.outcome.Query.{Query}
use Rattle.policy_compile.specs.Meaning.{AnswersAs}
use Rattle.policy_compile.specs.Plans.{of_plans, tests_in_each}
use Rattle.policy_compile.specs.Queries.{asked_tree}
use Rattle.policy_compile.proofs.Laws.{below-numbered, holds-numbered}
use Rattle.strata.specs.declared.stratum.Strata.{Strata}
use Rattle.strata.specs.declared.stratum.Stratum.{Stratum}
use Rattle.findings.specs.declared.decide.Asked.{Asked}
use Rattle.findings.specs.declared.decide.Asked.TheVariants as asked
use Rattle.findings.specs.declared.known.KnownAnswers.{KnownAnswers}
use Rattle.findings.specs.declared.region.Region.{Region}
use Rattle.findings.specs.Answers.{AnswersQuery}
use Rattle.findings.specs.Asked.{AsksBoth}
use Rattle.findings.specs.Asking.{DecidesWhose, IsOwnAnswered, IsOwnQuery, IsOwnTold, IsToldOf, TellsWhose, lying_plan}
use Rattle.findings.specs.Findings.{IsFinding}
use Rattle.findings.specs.KnownAnswers.{AreKnownAnswers}
use Rattle.findings.specs.Queries.{AreMadeFor, finer_plans}
use Rattle.findings.specs.RegionQueries.{AsksRegion, IsRegionQuery, SaysAsMuch}
use Rattle.findings.specs.Regions.{region_plan}
use Rattle.findings.proofs.Besides.{both-askable, both-hold}
use Rattle.findings.proofs.Looking.{some-answers}
use Rattle.findings.proofs.Made.{base-suits, finer-suit, made-few, made-steps, made-suits, own-suit}
use Rattle.findings.proofs.Owning.{own-if}
use Rattle.findings.proofs.Regions.{region-holds}

-- ---- queries of a region

region-query : (schema : Schema) (region : Region) (base : Query) (strata : Strata) → AreMadeFor schema region base strata → IsRegionQuery schema region base
region-query schema region base strata made = record {
  suit = base-suits schema region base strata made;
  few = made-few schema region base strata made;
  below = below-numbered base.tests (region_plan schema region) (asked_tree base) made.query.tree;
  says = λ r answers valid say. (
      let numbered = holds-numbered answers r base.tests say (region_plan schema region) (asked_tree base) made.query.tree in
      let lies = region-holds schema r region made.fits valid in
      (λ h. lies.0 (numbered.0 h), λ h. numbered.1 (lies.1 h)));
}

-- the region's own query is one
pub asks-made : (schema : Schema) (region : Region) (base : Query) (strata : Strata) → AreMadeFor schema region base strata → AsksRegion schema region base strata
asks-made schema region base strata made = record { base = base; made = made; is = region-query schema region base strata made }

-- and so is what is left of it
pub asks-less : (schema : Schema) (region : Region) (base : Query) (strata : Strata) (known : KnownAnswers) → AreMadeFor schema region base strata → AreKnownAnswers schema base strata known → AsksRegion schema region known.less.query strata
asks-less schema region base strata known made says =
    let whole = region-query schema region base strata made in
    let less = says.less in
    record {
      base = base;
      made = made;
      is = record {
        suit = subst (All (TestSuits schema)) (sym less.tests) whole.suit;
        few = subst (λ (ts : List Test). length ts < 2 ^ 32) (sym less.tests) whole.few;
        below = less.below;
        says = λ r answers valid say. (
            let told : AnswersAs answers r base.tests = subst (AnswersAs answers r) less.tests say in
            let same = less.same r answers valid told in
            let lies = whole.says r answers valid told in
            (λ h. lies.0 (same ∙ h), λ h. sym same ∙ lies.1 h));
      };
    }

-- ---- whose a finding is

pub own-query : (base : Query) (strata : Strata) (f : List ℕ) (q : Query) → IsFinding strata.dimensions f → AsksBoth (lying_plan strata.dimensions f) base q → IsOwnQuery base strata f q
own-query base strata f q is both = record {
  own = λ schema region asks r answers valid say. (
      let ds = strata.dimensions in
      let own = own-if schema region ds (made-steps schema region asks.base strata asks.made) (made-suits schema region asks.base strata asks.made) f is r valid in
      let told = both-hold schema (lying_plan ds f) base q both region asks.is r answers valid say in
      (λ h. own.0 (told.0 h), λ h. told.1 (own.1 h)));
  askable = λ schema region asks. (
      let ds = strata.dimensions in
      let suit = made-suits schema region asks.base strata asks.made in
      both-askable schema (lying_plan ds f) base q both asks.made.sound
      (own-suit schema ds suit f _ (All-append (TestSuits schema) (tests_in_each (of_plans (finer_plans ds f))) [] (finer-suit schema ds suit f) (All-nil (TestSuits schema))))
      asks.is.suit asks.is.below);
}

pub own-told : (schema : Schema) (splits states : ℕ) (base : Query) (strata : Strata) (f : List ℕ) (q : Query) (answer : Asked) (told : Option Asked) → IsOwnQuery base strata f q → AnswersQuery schema splits states q answer → IsToldOf answer told → IfSome told (IsOwnTold schema base strata f)
own-told schema splits states base strata f q (asked.Met r) told own met is =
    subst (λ (o : Option Asked). IfSome o (IsOwnTold schema base strata f)) (sym is) (λ region asks. (own.own schema region asks r met.meets.0 met.valid met.meets.1).0 met.meets.2)
own-told schema splits states base strata f q asked.Nobody told own none is =
    subst (λ (o : Option Asked). IfSome o (IsOwnTold schema base strata f)) (sym is) (λ region asks irreducible. (
    let r = irreducible.0 in
    some-answers r q.tests (λ answers says. none r (record {
      valid = irreducible.1.valid;
      answers = λ n b t e at. absurd (cc);
      meets = (answers, says, (own.own schema region asks r answers irreducible.1.valid says).1 irreducible.1);
    }))))
own-told schema splits states base strata f q asked.OutOfSplits told own says is = subst (λ (o : Option Asked). IfSome o (IsOwnTold schema base strata f)) (sym is) tt
own-told schema splits states base strata f q (asked.OutOfStates w) told own says is = subst (λ (o : Option Asked). IfSome o (IsOwnTold schema base strata f)) (sym is) tt

whose-told : (schema : Schema) (region : Region) (ds : List Stratum) (splits states : ℕ) (f : List ℕ) (answer : Asked) → TellsWhose schema region ds f answer → DecidesWhose schema region ds splits states f answer
whose-told schema region ds splits states f (asked.Met r) own = own
whose-told schema region ds splits states f asked.Nobody none = none
whose-told schema region ds splits states f asked.OutOfSplits never = absurd never
whose-told schema region ds splits states f (asked.OutOfStates w) never = absurd never

-- what is told by what is left of the query is told by the query
pub told-answered : (schema : Schema) (splits states : ℕ) (base : Query) (strata : Strata) (known : KnownAnswers) (f : List ℕ) (answer : Asked) → AreKnownAnswers schema base strata known → IsOwnTold schema known.less.query strata f answer → IsOwnAnswered schema splits states base strata f answer
told-answered schema splits states base strata known f answer says told region made =
    whose-told schema region strata.dimensions splits states f answer (told region (asks-less schema region base strata known made says))
