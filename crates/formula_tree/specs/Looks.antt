-- What a look at a tree gives: its value, and where that is unknown the test that the tree waits for.
use Rattle.std.specs.Prelude.{ℕ, Bool, true, false, Option, Some, None}
use Rattle.formula_tree.specs.declared.value.Three.{Three}
use Rattle.formula_tree.specs.declared.value.Three.TheVariants as three
use Rattle.formula_tree.specs.Trees.{Tree, Trees, yes, no, test, not, all, one_of, none, more}
use Rattle.formula_tree.specs.declared.looks.Look.{Look}
use Rattle.formula_tree.specs.declared.looks.Look.TheVariants.{Yes, No, Waits}

abbrev pub value_in : Look → Three
value_in Yes = three.Yes
value_in No = three.No
value_in (Waits n) = three.Unknown

abbrev pub pick_in : Look → Option ℕ
pick_in Yes = None
pick_in No = None
pick_in (Waits n) = Some n

abbrev pub look_of_not : Look → Look
look_of_not Yes = No
look_of_not No = Yes
look_of_not (Waits n) = Waits n

-- of two trees that both must hold, the first that isn't yes, unless one is no
abbrev pub look_of_both : Look → Look → Look
look_of_both No b = No
look_of_both Yes b = b
look_of_both (Waits n) No = No
look_of_both (Waits n) Yes = Waits n
look_of_both (Waits n) (Waits m) = Waits n

-- two trees, one of which must hold: the first that isn't no, unless one is yes
abbrev pub look_of_either : Look → Look → Look
look_of_either Yes b = Yes
look_of_either No b = b
look_of_either (Waits n) Yes = Yes
look_of_either (Waits n) No = Waits n
look_of_either (Waits n) (Waits m) = Waits n

abbrev pub look_of_test : Option Bool → ℕ → Look
look_of_test None n = Waits n
look_of_test (Some true) n = Yes
look_of_test (Some false) n = No

-- under an answer or none for each test
abbrev mutual
  pub look_of_tree : (ℕ → Option Bool) → Tree → Look
  look_of_tree answers yes = Yes
  look_of_tree answers no = No
  look_of_tree answers (test n) = look_of_test (answers n) n
  look_of_tree answers (not t) = look_of_not (look_of_tree answers t)
  look_of_tree answers (all ts) = look_of_all answers ts
  look_of_tree answers (one_of ts) = look_of_some answers ts

  pub look_of_all : (ℕ → Option Bool) → Trees → Look
  look_of_all answers none = Yes
  look_of_all answers (more t ts) = look_of_both (look_of_tree answers t) (look_of_all answers ts)

  pub look_of_some : (ℕ → Option Bool) → Trees → Look
  look_of_some answers none = No
  look_of_some answers (more t ts) = look_of_either (look_of_tree answers t) (look_of_some answers ts)
