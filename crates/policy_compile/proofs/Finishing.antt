-- A query of the nodes and the tests that were made, and why there is none.
use Rattle.std.proofs.Common.{◌≡◌, ◌<◌, ◌≤◌, ℕ, List, [], length, get_or, map, Some, Result, Ok, Err, sym, ap, ◌∙◌, subst, arith}
use Rattle.std.specs.Prelude.{option_map, slice_get, sum_by}
use Rattle.std.specs.Result.{IsErrAnd}
use Rattle.std.specs.declared.rc.Rc.{Rc}
use Rattle.std.specs.declared.alloc.Global.{Global}
use Rattle.std.proofs.lemmas.Option.{slice_get-get_or, slice_get-map}
use Rattle.formula_tree.specs.declared.formula.Formula.{Formula}
use Rattle.formula_tree.specs.Trees.{tree_of}
use Rattle.policy_model.specs.declared.test.Test.{Test}
use Rattle.policy_compile.specs.declared.builder.Builder.{Builder}
use Rattle.policy_compile.specs.declared.builder.TheConstants.{MOST_TESTS}
use Rattle.policy_compile.specs.declared.compile.TheConstants.{MOST_PIECES}
use Rattle.policy_compile.specs.declared.nodes.Node.{Node}
use Rattle.policy_compile.specs.declared.outcome.Query.{Query}
use Rattle.policy_compile.specs.declared.outcome.QueryFault.{QueryFault}
use Rattle.policy_compile.specs.declared.outcome.QueryFault.TheVariants.{TooManyTests, TooManyPieces, NoMemory}
use Rattle.policy_compile.specs.Building.{Built, Fails, Makes}
use Rattle.policy_compile.specs.Nodes.{IsPlanAt, StandFor, tree_at}
use Rattle.policy_compile.specs.Numbering.{Collects, IsNumbered}
use Rattle.policy_compile.specs.Plans.{Plan, tests_in}
use Rattle.policy_compile.specs.Queries.{IsFormulaAt, IsQuery, IsQueryOf, IsSmallFormula, test_pieces}

-- the formula of a node, and a copy of it
pub formula-at : (builder : Builder) (i : ℕ) (fs : List (Rc Formula Global)) (f v : Rc Formula Global) (nodes : List Node) → nodes ≡ builder.nodes.keys → StandFor nodes (map tree_at fs) → length fs ≡ length nodes → i < length builder.nodes.keys →
    f ≡ get_or fs i f → v.value ≡ f.value → IsFormulaAt builder i v
formula-at builder i fs f v nodes same stand count within is value plan node =
    let inside : i < length fs = omega (arith, count, ap (λ (ns : List Node). length ns) same) in
    let here : slice_get (map tree_at fs) i ≡ Some (tree_at f) = slice_get-map tree_at fs i ∙ ap (option_map tree_at) (slice_get-get_or fs i f inside ∙ ap (λ (r : Rc Formula Global). Some r) (sym is)) in
    let numbered : IsNumbered builder.tests.keys plan (tree_at f) = stand builder.tests.keys plan i (tree_at f) (subst (λ (ns : List Node). IsPlanAt builder.tests.keys ns plan i) (sym same) node) here in
    subst (λ (x : Formula). IsNumbered builder.tests.keys plan (tree_of x)) (sym value) numbered

-- a query of the tests and of the formula of its plan's node
pub query-made : (builder : Builder) (plan : Plan) (i : ℕ) (f : Rc Formula Global) (tests : List Test) → Makes builder plan i → IsSmallFormula builder i (Ok f) → tests ≡ builder.tests.keys → length builder.tests.keys ≤ MOST_TESTS → IsQuery plan (record { formula = f; tests = tests })
query-made builder plan i f tests makes small kept few = record {
  tests = subst (λ (ts : List Test). Collects [] (tests_in plan) ts) (sym kept) makes.collects;
  few = subst (λ (ts : List Test). length ts ≤ MOST_TESTS) (sym kept) few;
  small = subst (λ (ts : List Test). sum_by test_pieces ts ≤ MOST_PIECES) (sym kept) small.0;
  tree = subst (λ (ts : List Test). IsNumbered ts plan (tree_at f)) (sym kept) (small.1 plan makes.node);
}

-- ---- no query

large-or-none : (builder : Builder) (plan : Plan) (i : ℕ) (e : QueryFault) → Makes builder plan i → length builder.tests.keys ≤ MOST_TESTS → IsSmallFormula builder i (Err e) → IsQueryOf plan (Err e)
large-or-none builder plan i TooManyTests makes few h = absurd h
large-or-none builder plan i TooManyPieces makes few h = record { tests = builder.tests.keys; collects = makes.collects; few = few; large = h }
large-or-none builder plan i NoMemory makes few h = tt

pub no-formula : (builder : Builder) (plan : Plan) (i : ℕ) (r : Result Query QueryFault) (e : QueryFault) → Makes builder plan i → length builder.tests.keys ≤ MOST_TESTS → IsErrAnd r (λ f. f ≡ e) → IsSmallFormula builder i (Err e) → IsQueryOf plan r
no-formula builder plan i (Ok q) e makes few is h = absurd is
no-formula builder plan i (Err f) e makes few is h = subst (λ (x : QueryFault). IsQueryOf plan (Err x)) (sym is) (large-or-none builder plan i e makes few h)

few-or-none : (plan : Plan) (e : QueryFault) → Fails [] (tests_in plan) e → IsQueryOf plan (Err e)
few-or-none plan TooManyTests h = h
few-or-none plan TooManyPieces h = absurd h
few-or-none plan NoMemory h = tt

pub no-node : (had : List Test) (plan : Plan) (r : Result Query QueryFault) (e : QueryFault) → had ≡ [] → IsErrAnd r (λ f. f ≡ e) → Fails had (tests_in plan) e → IsQueryOf plan r
no-node had plan (Ok q) e none is h = absurd is
no-node had plan (Err f) e none is h = subst (λ (x : QueryFault). IsQueryOf plan (Err x)) (sym is) (few-or-none plan e (subst (λ (ts : List Test). Fails ts (tests_in plan) e) none h))

-- what was built from no tests is made
pub makes-built : (old new : Builder) (plan : Plan) (i : ℕ) → old.tests.keys ≡ [] → Built old new plan i → Makes new plan i
makes-built old new plan i none built = record { collects = subst (λ (ts : List Test). Collects ts (tests_in plan) new.tests.keys) none built.collects; node = built.node }
