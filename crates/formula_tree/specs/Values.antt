-- The value of a tree under a path of answered tests, and the test that an unknown tree waits for.
use Rattle.std.specs.Prelude.{ℕ, ◌<◌, Bool, true, false, ◌&&◌, ◌||◌, Option, Some, None, if◌then◌else◌}
use Rattle.std.specs.Prelude.{not as opposite}
use Rattle.formula_tree.specs.declared.value.Three.{Three}
use Rattle.formula_tree.specs.declared.value.Three.TheVariants.{Yes, No, Unknown}
use Rattle.formula_tree.specs.Answers.{Answers, answer_of}
use Rattle.formula_tree.specs.Trees.{Tree, Trees, yes, no, test, not, all, one_of, none, more}

-- ---- the truth of a tree where each test has an answer

abbrev mutual
  pub holds : (ℕ → Bool) → Tree → Bool
  holds total yes = true
  holds total no = false
  holds total (test n) = total n
  holds total (not t) = opposite (holds total t)
  holds total (all ts) = each_holds total ts
  holds total (one_of ts) = some_holds total ts

  pub each_holds : (ℕ → Bool) → Trees → Bool
  each_holds total none = true
  each_holds total (more t ts) = holds total t && each_holds total ts

  pub some_holds : (ℕ → Bool) → Trees → Bool
  some_holds total none = false
  some_holds total (more t ts) = holds total t || some_holds total ts

-- ---- the value of a tree under a path, in the three-valued logic of Kleene

abbrev pub answer_value : Option Bool → Three
answer_value None = Unknown
answer_value (Some true) = Yes
answer_value (Some false) = No

abbrev pub kleene_not : Three → Three
kleene_not Yes = No
kleene_not No = Yes
kleene_not Unknown = Unknown

-- no where one is no, yes where both are yes
abbrev pub kleene_and : Three → Three → Three
kleene_and No b = No
kleene_and Yes b = b
kleene_and Unknown No = No
kleene_and Unknown Yes = Unknown
kleene_and Unknown Unknown = Unknown

-- yes where one is yes, no where both are no
abbrev pub kleene_or : Three → Three → Three
kleene_or Yes b = Yes
kleene_or No b = b
kleene_or Unknown Yes = Yes
kleene_or Unknown No = Unknown
kleene_or Unknown Unknown = Unknown

abbrev mutual
  pub value : Answers → Tree → Three
  value path yes = Yes
  value path no = No
  value path (test n) = answer_value (answer_of path n)
  value path (not t) = kleene_not (value path t)
  value path (all ts) = value_of_all path ts
  value path (one_of ts) = value_of_some path ts

  -- no where a branch is no, yes where all are yes
  pub value_of_all : Answers → Trees → Three
  value_of_all path none = Yes
  value_of_all path (more t ts) = kleene_and (value path t) (value_of_all path ts)

  -- yes where a branch is yes, no where all are no
  pub value_of_some : Answers → Trees → Three
  value_of_some path none = No
  value_of_some path (more t ts) = kleene_or (value path t) (value_of_some path ts)

-- ---- the test that an unknown tree waits for

abbrev pub is_unknown : Three → Bool
is_unknown Yes = false
is_unknown No = false
is_unknown Unknown = true

-- an unanswered test is picked itself; of other unknown trees, what is picked in the first unknown branch
abbrev mutual
  pub pick : Answers → Tree → Option ℕ
  pick path yes = None
  pick path no = None
  pick path (test n) = if is_unknown (value path (test n)) then Some n else None
  pick path (not t) = pick path t
  pick path (all ts) = if is_unknown (value_of_all path ts) then pick_of_first path ts else None
  pick path (one_of ts) = if is_unknown (value_of_some path ts) then pick_of_first path ts else None

  pub pick_of_first : Answers → Trees → Option ℕ
  pick_of_first path none = None
  pick_of_first path (more t ts) = if is_unknown (value path t) then pick path t else pick_of_first path ts

-- ---- the tests of a tree

abbrev mutual
  -- each test of the tree has a number below t
  pub AreBelow : ℕ → Tree → Type 0
  AreBelow t yes = Unit {0}
  AreBelow t no = Unit {0}
  AreBelow t (test n) = n < t
  AreBelow t (not f) = AreBelow t f
  AreBelow t (all fs) = EachBelow t fs
  AreBelow t (one_of fs) = EachBelow t fs

  pub EachBelow : ℕ → Trees → Type 0
  EachBelow t none = Unit {0}
  EachBelow t (more f fs) = AreBelow t f × EachBelow t fs

-- the number is below each that the tree's tests are below
abbrev pub IsWithin : Tree → ℕ → Type 0
IsWithin tree n = (t : ℕ) → AreBelow t tree → n < t
