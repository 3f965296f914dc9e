-- Values under longer paths and under completions.
use Rattle.std.proofs.Common.{◌≡◌, ℕ, Bool, true, false, ◌&&◌, ◌||◌, Option, Some, None, refl}
use Rattle.std.proofs.Common.{not as opposite}
use Rattle.formula_tree.specs.declared.value.Three.{Three}
use Rattle.formula_tree.specs.declared.value.Three.TheVariants.{Yes, No, Unknown}
use Rattle.formula_tree.specs.Answers.{Answers, answer_of, Contained, Completes}
use Rattle.formula_tree.specs.Trees.{Tree, Trees, yes, no, test, not, all, one_of, none, more}
use Rattle.formula_tree.specs.Values.{answer_value, kleene_not, kleene_and, kleene_or, value, value_of_all, value_of_some, holds, each_holds, some_holds}

-- the value says what the truth is, where it says anything
abbrev pub Says : Three → Bool → Type 0
Says Yes b = b ≡ true
Says No b = b ≡ false
Says Unknown b = Unit {0}

says-test : (a : Option Bool) (b : Bool) → ((c : Bool) → a ≡ Some c → b ≡ c) → Says (answer_value a) b
says-test None b h = tt
says-test (Some true) b h = h true refl
says-test (Some false) b h = h false refl

says-swapped : (a : Three) (b : Bool) → Says a b → Says (kleene_not a) (opposite b)
says-swapped Yes b h = rw h refl
says-swapped No b h = rw h refl
says-swapped Unknown b h = tt

and-false : (x : Bool) → (x && false) ≡ false
and-false true = refl
and-false false = refl

or-true : (x : Bool) → (x || true) ≡ true
or-true true = refl
or-true false = refl

says-both : (a b : Three) (x y : Bool) → Says a x → Says b y → Says (kleene_and a b) (x && y)
says-both No b x y h k = rw h refl
says-both Yes b x y h k = rw h k
says-both Unknown No x y h k = rw k (and-false x)
says-both Unknown Yes x y h k = tt
says-both Unknown Unknown x y h k = tt

says-either : (a b : Three) (x y : Bool) → Says a x → Says b y → Says (kleene_or a b) (x || y)
says-either Yes b x y h k = rw h refl
says-either No b x y h k = rw h k
says-either Unknown Yes x y h k = rw k (or-true x)
says-either Unknown No x y h k = tt
says-either Unknown Unknown x y h k = tt

mutual
  pub says : (path : Answers) (total : ℕ → Bool) → Completes total path → (t : Tree) → Says (value path t) (holds total t)
  says path total c yes = refl
  says path total c no = refl
  says path total c (test n) = says-test (answer_of path n) (total n) (c n)
  says path total c (not t) = says-swapped (value path t) (holds total t) (says path total c t)
  says path total c (all ts) = says_all path total c ts
  says path total c (one_of ts) = says_some path total c ts

  says_all : (path : Answers) (total : ℕ → Bool) → Completes total path → (ts : Trees) → Says (value_of_all path ts) (each_holds total ts)
  says_all path total c none = refl
  says_all path total c (more t ts) = says-both (value path t) (value_of_all path ts) (holds total t) (each_holds total ts) (says path total c t) (says_all path total c ts)

  says_some : (path : Answers) (total : ℕ → Bool) → Completes total path → (ts : Trees) → Says (value_of_some path ts) (some_holds total ts)
  says_some path total c none = refl
  says_some path total c (more t ts) = says-either (value path t) (value_of_some path ts) (holds total t) (some_holds total ts) (says path total c t) (says_some path total c ts)

-- the second value keeps the first, where that is yes or no
abbrev pub Keeps : Three → Three → Type 0
Keeps Yes b = b ≡ Yes
Keeps No b = b ≡ No
Keeps Unknown b = Unit {0}

keeps-test : (a b : Option Bool) → ((c : Bool) → a ≡ Some c → b ≡ Some c) → Keeps (answer_value a) (answer_value b)
keeps-test None b h = tt
keeps-test (Some true) b h = rw (h true refl) refl
keeps-test (Some false) b h = rw (h false refl) refl

keeps-swapped : (a b : Three) → Keeps a b → Keeps (kleene_not a) (kleene_not b)
keeps-swapped Yes b h = rw h refl
keeps-swapped No b h = rw h refl
keeps-swapped Unknown b h = tt

both-no : (c : Three) → kleene_and c No ≡ No
both-no Yes = refl
both-no No = refl
both-no Unknown = refl

either-yes : (c : Three) → kleene_or c Yes ≡ Yes
either-yes Yes = refl
either-yes No = refl
either-yes Unknown = refl

keeps-both : (a b c d : Three) → Keeps a c → Keeps b d → Keeps (kleene_and a b) (kleene_and c d)
keeps-both No b c d h k = rw h refl
keeps-both Yes b c d h k = rw h k
keeps-both Unknown No c d h k = rw k (both-no c)
keeps-both Unknown Yes c d h k = tt
keeps-both Unknown Unknown c d h k = tt

keeps-either : (a b c d : Three) → Keeps a c → Keeps b d → Keeps (kleene_or a b) (kleene_or c d)
keeps-either Yes b c d h k = rw h refl
keeps-either No b c d h k = rw h k
keeps-either Unknown Yes c d h k = rw k (either-yes c)
keeps-either Unknown No c d h k = tt
keeps-either Unknown Unknown c d h k = tt

mutual
  pub keeps : (few many : Answers) → Contained few many → (t : Tree) → Keeps (value few t) (value many t)
  keeps few many c yes = refl
  keeps few many c no = refl
  keeps few many c (test n) = keeps-test (answer_of few n) (answer_of many n) (c n)
  keeps few many c (not t) = keeps-swapped (value few t) (value many t) (keeps few many c t)
  keeps few many c (all ts) = keeps_all few many c ts
  keeps few many c (one_of ts) = keeps_some few many c ts

  keeps_all : (few many : Answers) → Contained few many → (ts : Trees) → Keeps (value_of_all few ts) (value_of_all many ts)
  keeps_all few many c none = refl
  keeps_all few many c (more t ts) = keeps-both (value few t) (value_of_all few ts) (value many t) (value_of_all many ts) (keeps few many c t) (keeps_all few many c ts)

  keeps_some : (few many : Answers) → Contained few many → (ts : Trees) → Keeps (value_of_some few ts) (value_of_some many ts)
  keeps_some few many c none = refl
  keeps_some few many c (more t ts) = keeps-either (value few t) (value_of_some few ts) (value many t) (value_of_some many ts) (keeps few many c t) (keeps_some few many c ts)

pub says-yes : (path : Answers) (t : Tree) (total : ℕ → Bool) → Completes total path → value path t ≡ Yes → holds total t ≡ true
says-yes path t total c e = rw e at (says path total c t)

pub says-no : (path : Answers) (t : Tree) (total : ℕ → Bool) → Completes total path → value path t ≡ No → holds total t ≡ false
says-no path t total c e = rw e at (says path total c t)

pub keeps-yes : (few many : Answers) (t : Tree) → Contained few many → value few t ≡ Yes → value many t ≡ Yes
keeps-yes few many t c e = rw e at (keeps few many c t)

pub keeps-no : (few many : Answers) (t : Tree) → Contained few many → value few t ≡ No → value many t ≡ No
keeps-no few many t c e = rw e at (keeps few many c t)
