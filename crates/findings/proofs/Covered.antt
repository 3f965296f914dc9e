-- The query of a cover from its parts.
use Rattle.std.proofs.Common.{◌≡◌, ℕ, ◌<◌, ◌≤◌, List, [], ◌∷◌, ◌++◌, length, map, sym, ap, subst, ◌∙◌, arith}
use Rattle.std.specs.Prelude.{All}
use Rattle.std.specs.Global.{Global}
use Rattle.std.specs.declared.rc.Rc.{Rc}
use Rattle.std.proofs.lemmas.List.{append-nil}
use Rattle.std.proofs.lemmas.List.Elements.{All-append, All-nil}
use Rattle.formula_tree.specs.declared.formula.Branches.{Branches}
use Rattle.formula_tree.specs.declared.formula.Formula.{Formula}
use Rattle.formula_tree.specs.declared.formula.Formula.TheVariants.{All as AllNode}
use Rattle.formula_tree.specs.Trees.{Tree, of_list, tree_of, trees_of}
use Rattle.formula_tree.specs.Trees as tree
use Rattle.policy_model.specs.declared.schema.Schema.{Schema}
use Rattle.policy_model.specs.declared.test.Test.{Test}
use Rattle.policy_model.specs.Soundness.{TestSuits}
use Rattle.findings.specs.declared.cover.TheConstants.{MOST_COVER_TESTS}
use Rattle.findings.specs.declared.region.Region.{Region}
use Rattle.policy_compile.specs.declared.outcome.Query.{Query}
use Rattle.policy_compile.specs.Numbering.{Collects, IsNumbered, numbered_all}
use Rattle.policy_compile.specs.Plans.{Plan, all, of_plans, tests_in, tests_in_each}
use Rattle.policy_compile.proofs.Laws.{All-collects, below-numbered}
use Rattle.strata.specs.declared.stratum.Strata.{Strata}
use Rattle.strata.specs.declared.stratum.Stratum.{Stratum}
use Rattle.findings.specs.Answers.{QueryIsAskable}
use Rattle.findings.specs.Asked.{AreAsked, AsksBase, IsAsked}
use Rattle.findings.specs.CoverQueries.{AsksCover, CoverHasTooMany, IsCoverAsked, IsCoverQuery, cover_plan, lies_plan, outside_plan}
use Rattle.findings.specs.Queries.{AreMadeFor, own_plans}
use Rattle.findings.specs.Regions.{region_plan}
use Rattle.findings.proofs.Made.{made-suits, own-suit}
use Rattle.findings.proofs.Owning.{AllSuit}
use Rattle.findings.proofs.Plans.{asked-next, asked-none}
use Rattle.findings.proofs.Regions.{region-suits}
use Rattle.findings.proofs.Trees.{tree-All}

-- a formula that all of some hold
pub all-asked : (a b : List Test) (ps : List Plan) (before : List Tree) (branches : Branches) (f : Formula) → before ≡ [] → AreAsked a b ps before (trees_of branches) → f ≡ AllNode branches → IsAsked a b (all (of_plans ps)) (tree_of f)
all-asked a b ps before branches f empty asked is =
    let more_is : trees_of branches ≡ asked.more = asked.is ∙ ap (λ (xs : List Tree). xs ++ asked.more) empty in
    let tree_is : tree_of f ≡ tree.all (of_list asked.more) = ap tree_of is ∙ tree-All branches ∙ ap (λ (xs : List Tree). tree.all (of_list xs)) more_is in
    record { collects = asked.collects; numbered = subst (IsNumbered b (all (of_plans ps))) (sym tree_is) (numbered_all asked.numbered) }

-- the set's query, and then that the request lies in no finding
pub cover-asked : (base : Query) (ds : List Stratum) (fs : List (List ℕ)) (a b c : List Test) (none one : List Tree) (r : Rc Formula Global) (t : Tree) (branches : Branches) (whole : Formula) →
    a ≡ [] → none ≡ [] → AsksBase a b base r → one ≡ none ++ tree_of r.value ∷ [] → IsAsked b c (outside_plan ds fs) t → trees_of branches ≡ one ++ t ∷ [] → whole ≡ AllNode branches → IsCoverAsked base ds fs c (tree_of whole)
cover-asked base ds fs a b c none one r t branches whole first empty asks grows outside grown is allowed query =
    let own = subst (λ (xs : List Test). IsAsked xs b allowed (tree_of r.value)) first (asks allowed query) in
    let begun = asked-next [] [] b [] allowed none none one (tree_of r.value) (asked-none [] none) own grows in
    let both = asked-next [] b c (allowed ∷ []) (outside_plan ds fs) none one (trees_of branches) t begun outside grown in
    all-asked [] c (allowed ∷ outside_plan ds fs ∷ []) none branches whole empty both is

-- that formula and the tests are the cover's query, where they aren't too many
pub cover-query-asked : (base : Query) (ds : List Stratum) (fs : List (List ℕ)) (tests : List Test) (q : Query) → IsCoverAsked base ds fs tests (tree_of q.formula.value) → q.tests ≡ tests → length q.tests ≤ MOST_COVER_TESTS → AsksCover base ds fs q
cover-query-asked base ds fs tests q asked is few allowed query =
    let whole = asked allowed query in
    record {
      tests = subst (λ (xs : List Test). Collects [] (tests_in (cover_plan allowed ds fs)) xs) (sym is) whole.collects;
      few = few;
      tree = subst (λ (xs : List Test). IsNumbered xs (cover_plan allowed ds fs) (tree_of q.formula.value)) (sym is) whole.numbered;
    }

pub cover-too-many : (base : Query) (ds : List Stratum) (fs : List (List ℕ)) (tests got : List Test) (t : Tree) → IsCoverAsked base ds fs tests t → got ≡ tests → MOST_COVER_TESTS < length got → CoverHasTooMany base ds fs
cover-too-many base ds fs tests got t asked is many allowed query = record {
  front = tests_in (cover_plan allowed ds fs);
  rest = [];
  got = tests;
  is = sym (append-nil (tests_in (cover_plan allowed ds fs)));
  collects = (asked allowed query).collects;
  many = subst (λ (xs : List Test). MOST_COVER_TESTS < length xs) is many;
}

-- ---- it may be asked

lies-suit : (schema : Schema) (ds : List Stratum) → AllSuit schema ds → (f : List ℕ) → All (TestSuits schema) (tests_in (lies_plan ds f))
lies-suit schema ds suit f =
    subst (λ (ps : List Plan). All (TestSuits schema) (tests_in_each (of_plans ps))) (append-nil (own_plans ds f)) (own-suit schema ds suit f [] (All-nil (TestSuits schema)))

pub each-lies-suit : (schema : Schema) (ds : List Stratum) → AllSuit schema ds → (fs : List (List ℕ)) → All (TestSuits schema) (tests_in_each (of_plans (map (lies_plan ds) fs)))
each-lies-suit schema ds suit [] = All-nil (TestSuits schema)
each-lies-suit schema ds suit (f ∷ fs) =
    All-append (TestSuits schema) (tests_in (lies_plan ds f)) (tests_in_each (of_plans (map (lies_plan ds) fs))) (lies-suit schema ds suit f) (each-lies-suit schema ds suit fs)

cover-suits : (schema : Schema) (ds : List Stratum) → AllSuit schema ds → (fs : List (List ℕ)) (allowed : Plan) → All (TestSuits schema) (tests_in allowed) → All (TestSuits schema) (tests_in (cover_plan allowed ds fs))
cover-suits schema ds suit fs allowed suits =
    let each = tests_in_each (of_plans (map (lies_plan ds) fs)) in
    All-append (TestSuits schema) (tests_in allowed) (each ++ []) suits (All-append (TestSuits schema) each [] (each-lies-suit schema ds suit fs) (All-nil (TestSuits schema)))

pub cover-askable : (schema : Schema) (region : Region) (base : Query) (strata : Strata) → AreMadeFor schema region base strata → (fs : List (List ℕ)) (q : Query) → IsCoverQuery (region_plan schema region) strata.dimensions fs q → QueryIsAskable schema q
cover-askable schema region base strata made fs q asks =
    let plan = cover_plan (region_plan schema region) strata.dimensions fs in
    let read = region-suits schema region made.fits in
    record {
      sound = made.sound;
      suit = All-collects (TestSuits schema) [] (tests_in plan) q.tests asks.tests (All-nil (TestSuits schema)) (cover-suits schema strata.dimensions (made-suits schema region base strata made) fs (region_plan schema region) read);
      count = (let few = asks.few in omega (arith, few));
      below = below-numbered q.tests plan (tree_of q.formula.value) asks.tree;
    }
