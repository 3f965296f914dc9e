-- Tests are numbered from 0 in the order in which they are first read.
use Rattle.std.specs.Prelude.{◌≡◌, ◌<◌, ℕ, List, [], ◌∷◌, ◌++◌, length, Some, Contains, slice_get}
use Rattle.formula_tree.specs.Trees as tree
use Rattle.policy_model.specs.declared.test.Test.{Test}
use Rattle.policy_compile.specs.declared.builder.TheConstants.{MOST_TESTS}
use Rattle.policy_compile.specs.Plans.{Plan, Plans, yes, ask, not, all, one_of, none, more}

-- with the tests that are had already, what is had after these tests were read: each that isn't had is added at the end
pub data Collects : List Test → List Test → List Test → Type 0 where
  nothing : {had : List Test} → Collects had [] had
  again : {had read got : List Test} {t : Test} → Contains had t → Collects had read got → Collects had (t ∷ read) got
  anew : {had read got : List Test} {t : Test} → ¬ Contains had t → Collects (had ++ t ∷ []) read got →
      Collects had (t ∷ read) got

mutual
  -- the tree is the plan with each test's number in its stead
  pub data IsNumbered (tests : List Test) : Plan → tree.Tree → Type 0 where
    numbered_yes : IsNumbered tests yes tree.yes
    numbered_ask : {t : Test} {n : ℕ} → slice_get tests n ≡ Some t → IsNumbered tests (ask t) (tree.test n)
    numbered_not : {p : Plan} {t : tree.Tree} → IsNumbered tests p t → IsNumbered tests (not p) (tree.not t)
    numbered_all : {ps : Plans} {ts : tree.Trees} → AreNumbered tests ps ts → IsNumbered tests (all ps) (tree.all ts)
    numbered_one_of : {ps : Plans} {ts : tree.Trees} → AreNumbered tests ps ts → IsNumbered tests (one_of ps) (tree.one_of ts)

  pub data AreNumbered (tests : List Test) : Plans → tree.Trees → Type 0 where
    numbered_none : AreNumbered tests none tree.none
    numbered_more : {p : Plan} {ps : Plans} {t : tree.Tree} {ts : tree.Trees} → IsNumbered tests p t → AreNumbered tests ps ts →
        AreNumbered tests (more p ps) (tree.more t ts)

-- some of the tests that are read first are more than 1,000 different ones with those that are had
pub record HasTooMany (had read : List Test) : Type 0 where
  pub front : List Test
  pub rest : List Test
  pub got : List Test
  pub is : read ≡ front ++ rest
  pub collects : Collects had front got
  pub many : MOST_TESTS < length got
