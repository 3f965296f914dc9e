-- The laws of values and runs, each stated as the contract of a function without a body.
use Rattle.std.specs.Prelude.{◌≡◌, ◌<◌, ◌≤◌, ◌+◌, ◌^◌, ℕ, Bool, true, false, []}
use Rattle.formula_tree.specs.declared.value.Three.{Three}
use Rattle.formula_tree.specs.Answers.{Answers, Completes, Contained}
use Rattle.formula_tree.specs.Runs.{CanBeMet, NeedsMore, Run, unanswered_count}
use Rattle.formula_tree.specs.Trees.{Tree}
use Rattle.formula_tree.specs.Values.{AreBelow, holds, value}

-- a tree of this value has this truth under each completion of the path
abbrev pub IsTruth : Three → Bool → Type 0
IsTruth known truth = (path : Answers) (tree : Tree) (total : ℕ → Bool) →
    Completes total path → value path tree ≡ known → holds total tree ≡ truth

-- a tree of this value has it under each path that contains the answers
abbrev pub StaysAlong : Three → Type 0
StaysAlong known = (few many : Answers) (tree : Tree) → Contained few many → value few tree ≡ known → value many tree ≡ known

-- two runs from one path end alike, after as many splits
abbrev pub RunsAgree : (Answers → Type 0) → Type 0
RunsAgree possible = (tree : Tree) (path : Answers) (first second : Bool) (n m : ℕ) →
    Run possible tree path first n → Run possible tree path second m → (first ≡ second) × (n ≡ m)

-- a run from a path splits less often than there are answers to the tests that the path leaves open
abbrev pub RunsFitOpenTests : (Answers → Type 0) → Type 0
RunsFitOpenTests possible = (tree : Tree) (t : ℕ) (path : Answers) (end : Bool) (n : ℕ) →
    AreBelow t tree → Run possible tree path end n → n < 2 ^ unanswered_count path t

-- a run from the start splits less often than there are answers to the tests
abbrev pub RunsFitTests : (Answers → Type 0) → Type 0
RunsFitTests possible = (tree : Tree) (t : ℕ) (end : Bool) (n : ℕ) →
    AreBelow t tree → Run possible tree [] end n → n < 2 ^ t

-- it isn't so that there is no run from the path
abbrev pub RunsExist : (Answers → Type 0) → Type 0
RunsExist possible = (tree : Tree) (t : ℕ) (path : Answers) → AreBelow t tree →
    ¬ ((end : Bool) (n : ℕ) → ¬ Run possible tree path end n)

-- where there are at most splits + 1 answers to all tests, no run from the start needs more splits
abbrev pub FewTestsFit : (Answers → Type 0) → Type 0
FewTestsFit possible = (tree : Tree) (t splits : ℕ) → AreBelow t tree → 2 ^ t ≤ splits + 1 → ¬ NeedsMore possible tree [] splits

-- where a run ends with a path, the answers can be met
abbrev pub RunsEndWhereMet : (Answers → Type 0) → Type 0
RunsEndWhereMet possible = (tree : Tree) (path : Answers) (n : ℕ) → Run possible tree path true n → CanBeMet possible tree path

-- where the answers can be met, each run ends with a path
abbrev pub RunsMissNone : (Answers → Type 0) → Type 0
RunsMissNone possible = (tree : Tree) (path : Answers) (end : Bool) (n : ℕ) →
    CanBeMet possible tree path → Run possible tree path end n → end ≡ true

-- where a run ends without a path, so does each from a path that contains the answers
abbrev pub UnmetStaysUnmet : (Answers → Type 0) → Type 0
UnmetStaysUnmet possible = (tree : Tree) (few many : Answers) (end : Bool) (n m : ℕ) →
    Contained few many → Run possible tree few false n → Run possible tree many end m → end ≡ false
