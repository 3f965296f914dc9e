-- What the steps of making a query leave: the tests and the nodes that are had.
use Rattle.std.specs.Prelude.{◌≡◌, ◌≤◌, ◌<◌, ◌⊎◌, ⊤, ℕ, Bool, List, [], ◌∷◌, ◌++◌, length, All, Contains, Result, Ok, Err, Some, slice_get}
use Rattle.policy_model.specs.declared.test.Test.{Test}
use Rattle.policy_compile.specs.declared.builder.Builder.{Builder}
use Rattle.policy_compile.specs.declared.builder.TheConstants.{MOST_TESTS}
use Rattle.policy_compile.specs.declared.nodes.Node.{Node}
use Rattle.policy_compile.specs.declared.outcome.QueryFault.{QueryFault}
use Rattle.policy_compile.specs.declared.outcome.QueryFault.TheVariants.{TooManyTests, TooManyPieces, NoMemory}
use Rattle.policy_compile.specs.Nodes.{ArePlansAt, IsPlanAt}
use Rattle.policy_compile.specs.Numbering.{Collects, HasTooMany}
use Rattle.policy_compile.specs.Plans.{Plan, of_plans, tests_in, tests_in_each}
use Rattle.policy_compile.specs.Sets.{some_or_none}

-- the second list is the first one and more
pub record IsBeginningOf {T : Type 0} (a b : List T) : Type 0 where
  pub rest : List T
  pub is : b ≡ a ++ rest

-- the new builder has the nodes of the old one, its tests, and with this number the test, which is new at most at their end
pub record HasNumber (old new : Builder) (t : Test) (n : ℕ) : Type 0 where
  pub collects : Collects old.tests.keys (t ∷ []) new.tests.keys
  pub nodes : new.nodes.keys ≡ old.nodes.keys
  pub at : slice_get new.tests.keys n ≡ Some t

-- the new builder has the tests of the old one, its nodes and more, and this node
pub record HasNode (old new : Builder) (n : Node) (i : ℕ) : Type 0 where
  pub tests : new.tests.keys ≡ old.tests.keys
  pub grows : IsBeginningOf old.nodes.keys new.nodes.keys
  pub at : slice_get new.nodes.keys i ≡ Some n

-- from the old builder to the new one a plan was made the node of this index
pub record Built (old new : Builder) (p : Plan) (i : ℕ) : Type 0 where
  pub collects : Collects old.tests.keys (tests_in p) new.tests.keys
  pub grows : IsBeginningOf old.nodes.keys new.nodes.keys
  pub node : IsPlanAt new.tests.keys new.nodes.keys p i

-- from the old builder to the new one the nodes of these plans were added to indices
pub record Added (old new : Builder) (ps : List Plan) (before after : List ℕ) : Type 0 where
  pub collects : Collects old.tests.keys (tests_in_each (of_plans ps)) new.tests.keys
  pub grows : IsBeginningOf old.nodes.keys new.nodes.keys
  pub more : List ℕ
  pub is : after ≡ before ++ more
  pub nodes : ArePlansAt new.tests.keys new.nodes.keys (of_plans ps) more

-- the test is had, or there is room for one more; and neither
abbrev pub HasRoom : Builder → Test → Type 0
HasRoom builder t = (length builder.tests.keys < MOST_TESTS) ⊎ Contains builder.tests.keys t

abbrev pub HasNoRoom : Builder → Test → Type 0
HasNoRoom builder t = (MOST_TESTS ≤ length builder.tests.keys) × ¬ Contains builder.tests.keys t

-- each of these indices is that of a node
abbrev pub AreIndices : Builder → List ℕ → Type 0
AreIndices builder indices = All (λ i. i < length builder.nodes.keys) indices

-- why these tests can't be had beside those that are had
abbrev pub Fails : List Test → List Test → QueryFault → Type 0
Fails had read TooManyTests = HasTooMany had read
Fails had read TooManyPieces = ⊥
Fails had read NoMemory = ⊤

-- what making a plan, or adding plans, comes to
abbrev pub IsBuilt : Builder → Builder → Plan → Result ℕ QueryFault → Type 0
IsBuilt old new p (Ok i) = Built old new p i
IsBuilt old new p (Err e) = Fails old.tests.keys (tests_in p) e

abbrev pub IsAdded : {T : Type 0} → Builder → Builder → List Plan → List ℕ → List ℕ → Result T QueryFault → Type 0
IsAdded old new ps before after (Ok x) = Added old new ps before after
IsAdded old new ps before after (Err e) = Fails old.tests.keys (tests_in_each (of_plans ps)) e

-- the builder has the tests of the plan alone, and the plan is the node of this index
pub record Makes (builder : Builder) (p : Plan) (i : ℕ) : Type 0 where
  pub collects : Collects [] (tests_in p) builder.tests.keys
  pub node : IsPlanAt builder.tests.keys builder.nodes.keys p i

-- wherever these nodes were added one by one, some of them, or with `not` none, was made of them
abbrev pub MakesElement : Builder → Builder → Bool → List ℕ → Result ℕ QueryFault → Type 0
MakesElement mid new not indices result =
    (old : Builder) (ps : List Plan) → Added old mid ps [] indices → IsBuilt old new (some_or_none not ps) result
