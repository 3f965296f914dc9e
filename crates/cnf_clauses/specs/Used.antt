-- Which answers hints rest on, and under which fewer answers they still replay.
use Rattle.std.specs.Prelude.{ℕ, List}
use Rattle.formula_tree.specs.Answers.{Answers, Contained}
use Rattle.cnf_clauses.specs.Literals.{Clause}
use Rattle.cnf_clauses.specs.Replays.{Replays}

-- Answers that the hints rest on: from each list of answers of the path the hints replay exactly where it has all of these.
-- (They are those answers of the path whose negated literal stands in a clause that a hint names.)
abbrev pub RestOn : List Clause → Answers → List ℕ → Answers → Type 0
RestOn clauses path hints used = (few : Answers) → Contained few path →
    (Contained used few → Replays clauses few hints) × (Replays clauses few hints → Contained used few)

-- Hints that replay from few and from many answers replay from all between. Replaying isn't monotone: a further answer may
-- satisfy a clause that a hint names, and then the replay fails.
abbrev pub ReplaysAreConvex : Type 0
ReplaysAreConvex = (clauses : List Clause) (hints : List ℕ) (few between many : Answers) → Contained few between →
    Contained between many → Replays clauses few hints → Replays clauses many hints → Replays clauses between hints
