-- Plain trees over tests: what a query asks of a request, before its tests are numbered.
use Rattle.std.specs.Prelude.{List, [], ◌∷◌, ◌++◌, ⊤, ◌⊎◌}
use Rattle.policy_model.specs.Tests.{TestHolds}
use Rattle.policy_model.specs.declared.request.Request.{Request}
use Rattle.policy_model.specs.declared.test.Test.{Test}

mutual
  -- a tree over tests: `all` holds where each branch holds, `one_of` where some branch does
  pub data Plan : Type 0 where
    yes : Plan
    ask : Test → Plan
    not : Plan → Plan
    all : Plans → Plan
    one_of : Plans → Plan

  -- branches, in order
  pub data Plans : Type 0 where
    none : Plans
    more : Plan → Plans → Plans

-- the plans of a list, as branches
abbrev pub of_plans : List Plan → Plans
of_plans [] = none
of_plans (p ∷ ps) = more p (of_plans ps)

-- the tests of a plan, read from left to right
abbrev mutual
  pub tests_in : Plan → List Test
  tests_in yes = []
  tests_in (ask t) = t ∷ []
  tests_in (not p) = tests_in p
  tests_in (all ps) = tests_in_each ps
  tests_in (one_of ps) = tests_in_each ps

  pub tests_in_each : Plans → List Test
  tests_in_each none = []
  tests_in_each (more p ps) = tests_in p ++ tests_in_each ps

-- what a plan says of a request
abbrev mutual
  pub PlanHolds : Request → Plan → Type 0
  PlanHolds r yes = ⊤
  PlanHolds r (ask t) = TestHolds r t
  PlanHolds r (not p) = ¬ PlanHolds r p
  PlanHolds r (all ps) = EachHolds r ps
  PlanHolds r (one_of ps) = SomeHolds r ps

  pub EachHolds : Request → Plans → Type 0
  EachHolds r none = ⊤
  EachHolds r (more p ps) = PlanHolds r p × EachHolds r ps

  pub SomeHolds : Request → Plans → Type 0
  SomeHolds r none = ⊥
  SomeHolds r (more p ps) = PlanHolds r p ⊎ SomeHolds r ps
