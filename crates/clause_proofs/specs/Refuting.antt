-- Clausal proofs: lines that each add a clause. It holds wherever the earlier clauses do. The last one is the empty clause, which never
-- holds.
use Rattle.std.specs.Prelude.{◌≡◌, ◌⊎◌, ◌<◌, List, [], ◌∷◌, ◌++◌, length, map}
use Rattle.formula_tree.specs.Answers.{IsDistinct}
use Rattle.formula_tree.specs.Trees.{Tree}
use Rattle.cnf_clauses.specs.declared.making.TheConstants.{MOST_CLAUSES}
use Rattle.cnf_clauses.specs.Literals.{Clause, complement}
use Rattle.cnf_clauses.specs.Numbering.{clauses_of}
use Rattle.cnf_clauses.specs.Replays.{Replays}
use Rattle.policy_compile.specs.declared.outcome.Query.{Query}
use Rattle.policy_compile.specs.Queries.{asked_tree}
use Rattle.policy_model.specs.declared.schema.Schema.{Schema}
use Rattle.policy_model.specs.declared.test.Test.{Test}
use Rattle.slot_theory.specs.Cores.{Accepts}
use Rattle.clause_proofs.specs.declared.lines.Line.{Line}
use Rattle.clause_proofs.specs.declared.lines.Line.TheVariants.{Derived, Excluded}

-- the clause that a line adds: a learned one, or that one of the answers is otherwise
abbrev pub clause_of : Line → Clause
clause_of (Derived clause hints) = clause
clause_of (Excluded answers proof) = map complement answers

-- why the clause holds wherever the others do: by reverse unit propagation from the complements of its literals, or since
-- no value of a slot gives the answers
abbrev pub IsJustified : Schema → List Test → List Clause → Line → Type 0
IsJustified schema tests clauses (Derived clause hints) = Replays clauses (map complement clause) hints
IsJustified schema tests clauses (Excluded answers proof) = Accepts schema tests answers (map (λ a. a.0) answers) proof.value

-- a line is right behind the clauses: there is a number left for its clause, in which no variable stands twice, and which is
-- justified
pub record IsRightLine (schema : Schema) (tests : List Test) (clauses : List Clause) (line : Line) : Type 0 where
  pub numbered : length clauses < MOST_CLAUSES
  pub distinct : IsDistinct (clause_of line)
  pub justified : IsJustified schema tests clauses line

-- the lines refute the clauses: each is right behind the clauses and those of the lines before it, up to one whose clause is empty
abbrev pub RefuteClauses : Schema → List Test → List Clause → List Line → Type 0
RefuteClauses schema tests clauses [] = ⊥
RefuteClauses schema tests clauses (line ∷ lines) =
    IsRightLine schema tests clauses line ×
    ((clause_of line ≡ []) ⊎ RefuteClauses schema tests (clauses ++ clause_of line ∷ []) lines)

-- they refute a tree over the tests: its clauses
abbrev pub RefuteTree : Schema → List Test → Tree → List Line → Type 0
RefuteTree schema tests tree lines = RefuteClauses schema tests (clauses_of (length tests) tree) lines

-- and a query
abbrev pub LinesRefute : Schema → Query → List Line → Type 0
LinesRefute schema query lines = RefuteTree schema query.tests (asked_tree query) lines
