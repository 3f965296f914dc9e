-- The query that a request lies in a finding and in no finer one, and what is told whose the finding is.
use Rattle.std.proofs.Common.{◌≡◌, ℕ, ◌<◌, ◌^◌, List, [], ◌∷◌, ◌++◌, length, sym, subst}
use Rattle.std.proofs.lemmas.List.Elements.{All-append, All-nil}
use Rattle.formula_tree.specs.declared.formula.Branches.{Branches}
use Rattle.formula_tree.specs.declared.formula.Formula.{Formula}
use Rattle.formula_tree.specs.declared.formula.Formula.TheVariants.{All as AllNode}
use Rattle.formula_tree.specs.Trees.{Tree, tree_of, trees_of}
use Rattle.policy_model.specs.declared.schema.Schema.{Schema}
use Rattle.policy_model.specs.declared.test.Test.{Test}
use Rattle.policy_model.specs.Soundness.{TestSuits}
use Rattle.policy_compile.specs.declared.outcome.Query.{Query}
use Rattle.policy_compile.specs.Numbering.{Collects, IsNumbered}
use Rattle.policy_compile.specs.Plans.{of_plans, tests_in, tests_in_each}
use Rattle.policy_compile.proofs.Laws.{All-collects, below-numbered}
use Rattle.strata.specs.declared.stratum.Strata.{Strata}
use Rattle.strata.specs.declared.stratum.Stratum.{Stratum}
use Rattle.findings.specs.declared.decide.Asked.{Asked}
use Rattle.findings.specs.declared.decide.Asked.TheVariants as asked
use Rattle.findings.specs.Answers.{AnswersQuery}
use Rattle.findings.specs.Asked.{AreAsked, AsksOwn, HoldsForOwn, IsAskableOver, IsAsked, no_finer_plan}
use Rattle.findings.specs.Asking.{IsOwnAnswered, lying_plan}
use Rattle.findings.specs.Queries.{finer_plans, own_plans}
use Rattle.findings.specs.Regions.{region_plan}
use Rattle.findings.proofs.Covered.{all-asked}
use Rattle.findings.proofs.Looking.{met-own, none-own}
use Rattle.findings.proofs.Made.{finer-suit, made-suits, own-suit}
use Rattle.findings.proofs.Plans.{asked-next}

pub lying-asked : (ds : List Stratum) (f : List ℕ) (start a b : List Test) (none first : List Tree) (t : Tree) (branches : Branches) (whole : Formula) →
    start ≡ [] → none ≡ [] → AreAsked start a (own_plans ds f) none first → IsAsked a b (no_finer_plan ds f) t → trees_of branches ≡ first ++ t ∷ [] → whole ≡ AllNode branches → IsAsked [] b (lying_plan ds f) (tree_of whole)
lying-asked ds f start a b none first t branches whole begins empty own finer grows is =
    let both = asked-next start a b (own_plans ds f) (no_finer_plan ds f) none first (trees_of branches) t own finer grows in
    subst (λ (xs : List Test). IsAsked xs b (lying_plan ds f) (tree_of whole)) begins (all-asked start b (own_plans ds f ++ no_finer_plan ds f ∷ []) none branches whole empty both is)

pub lying-askable : (strata : Strata) (f : List ℕ) (tests : List Test) (q : Query) → IsAsked [] tests (lying_plan strata.dimensions f) (tree_of q.formula.value) → q.tests ≡ tests → length q.tests < 2 ^ 32 → IsAskableOver strata q
lying-askable strata f tests q asked is few base schema region made =
    let ds = strata.dimensions in
    let plan = lying_plan ds f in
    let suit = made-suits schema region base strata made in
    let numbered = subst (λ (xs : List Test). IsNumbered xs plan (tree_of q.formula.value)) (sym is) asked.numbered in
    record {
      sound = made.sound;
      suit = All-collects (TestSuits schema) [] (tests_in plan) q.tests (subst (λ (xs : List Test). Collects [] (tests_in plan) xs) (sym is) asked.collects) (All-nil (TestSuits schema))
          (own-suit schema ds suit f _ (All-append (TestSuits schema) (tests_in_each (of_plans (finer_plans ds f))) [] (finer-suit schema ds suit f) (All-nil (TestSuits schema))));
      count = few;
      below = below-numbered q.tests plan (tree_of q.formula.value) numbered;
    }

-- what is answered on the finding's query tells whose the finding is
pub query-tells : (schema : Schema) (splits states : ℕ) (base : Query) (strata : Strata) (f : List ℕ) (q : Query) (answer : Asked) → AsksOwn base strata.dimensions f q → HoldsForOwn base strata f q → AnswersQuery schema splits states q answer → IsOwnAnswered schema splits states base strata f answer
query-tells schema splits states base strata f q (asked.Met r) plan own says region made = met-own schema region base strata f q r made own says
query-tells schema splits states base strata f q asked.Nobody plan own says region made = none-own schema region base strata f q made own says
query-tells schema splits states base strata f q asked.OutOfSplits plan own says region made = record { query = q; is = plan (region_plan schema region) made.query; holds = says }
query-tells schema splits states base strata f q (asked.OutOfStates w) plan own says region made = record { query = q; is = plan (region_plan schema region) made.query; holds = says }
