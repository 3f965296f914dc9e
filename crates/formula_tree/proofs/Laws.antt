-- The lemmas on paths, values and runs that crates above cite.
use Rattle.std.proofs.Common.{◌≡◌, ◌≢◌, ℕ, ◌<◌, suc, [], ◌∷◌, ◌++◌, Bool, true, false, Some, None, ◌⊎◌}
use Rattle.formula_tree.specs.Answers.{Answers, answer_of, Completes, Contained}
use Rattle.formula_tree.specs.Runs.{path_with, unanswered_count}
use Rattle.formula_tree.specs.Trees.{Tree}
use Rattle.formula_tree.specs.Values.{holds, pick, value}
use Rattle.formula_tree.specs.declared.value.Three.TheVariants.{Yes, No, Unknown}
use Rattle.formula_tree.proofs.AnswerLists as lists
use Rattle.formula_tree.proofs.Looking as looks
use Rattle.formula_tree.proofs.Running as runs
use Rattle.formula_tree.proofs.Keeping as values
-- what a look at a tree gives under answers is the tree's value under a path of the same answers, and the test that it picks
pub use Rattle.formula_tree.proofs.Looking.{clause-unanswered, clause-unknown, clause-within, pick-is, value-is, waits-unanswered, waits-within}
-- branches in a row, however they are grouped
pub use Rattle.formula_tree.proofs.Looking.{both-assoc, either-assoc}

-- two numbers are equal, or they aren't
pub cases_eq : (k n : ℕ) → (k ≡ n) ⊎ (k ≢ n)
cases_eq = lists.cases_eq

-- a longer list keeps each answer
pub answer_of-more : (ps qs : Answers) (n : ℕ) (b : Bool) → answer_of ps n ≡ Some b → answer_of (ps ++ qs) n ≡ Some b
answer_of-more = lists.answer_of-more

-- a test without an answer in the first part has that of the second
pub answer_of-rest : (ps qs : Answers) (n : ℕ) → answer_of ps n ≡ None → answer_of (ps ++ qs) n ≡ answer_of qs n
answer_of-rest = lists.answer_of-rest

-- one more answer leaves those to other tests
pub answer_of-besides : (ps : Answers) (n : ℕ) (b : Bool) (k : ℕ) → k ≢ n → answer_of (ps ++ (n, b) ∷ []) k ≡ answer_of ps k
answer_of-besides = lists.answer_of-besides

-- and it is the answer to its own test, where that had none
pub answer_of-last : (ps : Answers) (n : ℕ) (b : Bool) → answer_of ps n ≡ None → answer_of (ps ++ (n, b) ∷ []) n ≡ Some b
answer_of-last = lists.answer_of-last

-- a tree whose value is yes holds under each completion of the path
pub says-yes : (path : Answers) (t : Tree) (total : ℕ → Bool) → Completes total path → value path t ≡ Yes → holds total t ≡ true
says-yes = values.says-yes

-- and one whose value is no doesn't
pub says-no : (path : Answers) (t : Tree) (total : ℕ → Bool) → Completes total path → value path t ≡ No → holds total t ≡ false
says-no = values.says-no

-- a tree that waits for a test has the value unknown
pub pick-unknown : (path : Answers) (t : Tree) (n : ℕ) → pick path t ≡ Some n → value path t ≡ Unknown
pick-unknown = looks.pick-unknown

-- and the path doesn't answer that test
pub pick-unanswered : (path : Answers) (t : Tree) (n : ℕ) → pick path t ≡ Some n → answer_of path n ≡ None
pick-unanswered = looks.pick-unanswered

-- one more answer leaves one open test less
pub unanswered-more : (path : Answers) (n : ℕ) (b : Bool) (t : ℕ) → n < t → answer_of path n ≡ None → unanswered_count path t ≡ suc (unanswered_count (path_with path n b) t)
unanswered-more = runs.unanswered-more

-- the empty path leaves every test open
pub unanswered-start : (t : ℕ) → unanswered_count [] t ≡ t
unanswered-start = runs.unanswered-start

-- and the value no
pub keeps-no : (few many : Answers) (t : Tree) → Contained few many → value few t ≡ No → value many t ≡ No
keeps-no = values.keeps-no

-- a path is contained in itself with one more answer
pub contained-answered : (path : Answers) (n : ℕ) (b : Bool) → Contained path (path_with path n b)
contained-answered = runs.contained-answered

-- and so does a path where both gain the same answer
pub contained-both : (few many : Answers) (n : ℕ) (b : Bool) → Contained few many → answer_of few n ≡ None → answer_of many n ≡ None → Contained (path_with few n b) (path_with many n b)
contained-both = runs.contained-both
