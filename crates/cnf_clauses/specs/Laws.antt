-- What replayed hints say of the formula.
use Rattle.std.specs.Prelude.{◌≡◌, ◌<◌, ℕ, List, Bool, true, false, All}
use Rattle.formula_tree.specs.Answers.{Answers, Completes}
use Rattle.formula_tree.specs.Trees.{Tree}
use Rattle.formula_tree.specs.Values.{AreBelow, holds}
use Rattle.cnf_clauses.specs.Literals.{Clause, AreSatisfied}
use Rattle.cnf_clauses.specs.Numbering.{clauses_of}
use Rattle.cnf_clauses.specs.Replays.{Replays}

-- where hints replay from a path, no completion of it makes the tree yes; the tests of both are below the number of tests
abbrev pub ReplaysExcludeYes : Type 0
ReplaysExcludeYes = (tests : ℕ) (tree : Tree) (path : Answers) (hints : List ℕ) (total : ℕ → Bool) →
    AreBelow tests tree → All (λ p. p.0 < tests) path → Replays (clauses_of tests tree) path hints →
    Completes total path → holds total tree ≡ false

-- the truth gives each test its answer, and satisfies each clause of the tree
pub record IsTruthOf (tests : ℕ) (tree : Tree) (total : ℕ → Bool) (truth : ℕ → Bool) : Type 0 where
  pub answers : (n : ℕ) → n < tests → truth n ≡ total n
  pub satisfies : AreSatisfied truth (clauses_of tests tree)

-- answers to all tests that make the tree yes leave a truth of every variable under which each clause is satisfied
abbrev pub ClausesHaveTruths : Type 0
ClausesHaveTruths = (tests : ℕ) (tree : Tree) (total : ℕ → Bool) → AreBelow tests tree → holds total tree ≡ true →
    (truth : ℕ → Bool) × IsTruthOf tests tree total truth

-- where a truth satisfies each clause, no hints replay from what it completes
abbrev pub SatisfiedClausesNeverReplay : Type 0
SatisfiedClausesNeverReplay = (truth : ℕ → Bool) (cs : List Clause) (decided : Answers) (hints : List ℕ) →
    AreSatisfied truth cs → Completes truth decided → Replays cs decided hints → ⊥
