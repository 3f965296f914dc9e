-- The check of a clausal proof, line by line.
use Rattle.std.proofs.Common.{◌≡◌, ◌≢◌, ◌↔◌, ◌<◌, ◌≤◌, ◌+◌, ℕ, List, [], ◌∷◌, ◌++◌, length, map, drop, get_or, Bool, true, false, Some, IsTrue, All, refl, sym, ap, ◌∙◌, subst, inl, inr, arith}
use Rattle.std.proofs.lemmas.Grind.{common_steps}
use Rattle.std.proofs.lemmas.List.{drop_all, drop_more}
use Rattle.std.proofs.lemmas.List.Elements.{All-cons, All-head, All-nil, All-tail}
use Rattle.formula_tree.specs.Answers.{Answers, answer_of}
use Rattle.formula_tree.proofs.Laws.{cases_eq}
use Rattle.cnf_clauses.specs.Literals.{Clause, Literal}
use Rattle.policy_model.specs.declared.schema.Schema.{Schema}
use Rattle.policy_model.specs.declared.test.Test.{Test}
use Rattle.slot_theory.specs.declared.outcome.SlotProof.{SlotProof}
use Rattle.slot_theory.specs.Cores.{Accepts}
use Rattle.slot_theory.specs.Possible.{PathInRange}
use Rattle.clause_proofs.specs.declared.lines.Line.{Line}
use Rattle.clause_proofs.specs.Refuting.{IsRightLine, RefuteClauses, clause_of}

-- ---- answers in range

-- answers to tests below a number
abbrev pub AreBelowNumber : ℕ → Answers → Type 0
AreBelowNumber count answers = All (λ (a : Literal). a.0 < count) answers

in-range : (tests : List Test) (answers : Answers) → AreBelowNumber (length tests) answers → PathInRange tests answers
in-range tests [] below n b is = absurd (cc)
in-range tests (a ∷ answers) below n b is =
    elim (cases_eq a.0 n) [
      | inl same ↦ omega (arith, same, All-head (λ (x : Literal). x.0 < length tests) a answers below)
      | inr other ↦
          let rest : answer_of answers n ≡ Some b = grind (arith, common_steps) in
          in-range tests answers (All-tail (λ (x : Literal). x.0 < length tests) a answers below) n b rest
    ]

below-own : (count : ℕ) (answers : Answers) → All (λ (n : ℕ). n < count) (map (λ (a : Literal). a.0) answers) → AreBelowNumber count answers
below-own count [] below = All-nil (λ (x : Literal). x.0 < count)
below-own count (a ∷ answers) below =
    let rest = map (λ (x : Literal). x.0) answers in
    All-cons (λ (x : Literal). x.0 < count) a answers (All-head (λ (n : ℕ). n < count) a.0 rest below) (below-own count answers (All-tail (λ (n : ℕ). n < count) a.0 rest below))

-- answers that are accepted as a core are in range
accepted-below : (schema : Schema) (tests : List Test) (answers : Answers) (proof : SlotProof) → Accepts schema tests answers (map (λ (a : Literal). a.0) answers) proof → AreBelowNumber (length tests) answers
accepted-below schema tests answers proof accepted = below-own (length tests) answers accepted.conflict.core_is.within

-- answers of which one is out of range are not
pub not-accepted : (schema : Schema) (tests : List Test) (answers : Answers) (proof : SlotProof) (count : ℕ) (asked : Bool) → count ≡ length tests → IsTrue asked ↔ AreBelowNumber count answers → asked ≡ false →
    Accepts schema tests answers (map (λ (a : Literal). a.0) answers) proof → ⊥
not-accepted schema tests answers proof count asked is says none accepted =
    let below = subst (λ (n : ℕ). AreBelowNumber n answers) (sym is) (accepted-below schema tests answers proof accepted) in
    let told : asked ≡ true = says.1 below in
    absurd (cc)

-- the same of a path with the answers
pub path-in-range : (tests : List Test) (answers path : Answers) (count : ℕ) → count ≡ length tests → path ≡ answers → AreBelowNumber count answers → PathInRange tests path
path-in-range tests answers path count is same below =
    subst (PathInRange tests) (sym same) (in-range tests answers (subst (λ (n : ℕ). AreBelowNumber n answers) is below))

-- ---- lines

module _ (schema : Schema) (tests : List Test) where
  -- what is said of some lines says the same of others
  abbrev pub RefuteAlike : List Clause → List Line → List Clause → List Line → Type 0
  RefuteAlike start all clauses rest =
      (RefuteClauses schema tests start all → RefuteClauses schema tests clauses rest) ×
      (RefuteClauses schema tests clauses rest → RefuteClauses schema tests start all)

  -- so far, of the line at an index
  module _ (start clauses : List Clause) (all : List Line) (k : ℕ) (line : Line) (small : k < length all) (here : line ≡ get_or all k line) (alike : RefuteAlike start all clauses (drop k all)) where
    at-line : RefuteAlike start all clauses (line ∷ drop (k + 1) all)
    at-line = subst (RefuteAlike start all clauses) (drop_more all k line small ∙ ap (λ (x : Line). x ∷ drop (k + 1) all) (sym here)) alike

    -- the line is not right
    pub fails-all : (right : Bool) → IsTrue right ↔ IsRightLine schema tests clauses line → right ≡ false → IsTrue false ↔ RefuteClauses schema tests start all
    fails-all right says none = (
      λ told. absurd (cc),
      λ refutes. let is : right ≡ true = says.1 (at-line.0 refutes).0 in cc,
    )

    -- it is right, and its clause is empty
    pub ends-all : (right : Bool) → IsTrue right ↔ IsRightLine schema tests clauses line → right ≡ true → clause_of line ≡ [] → IsTrue true ↔ RefuteClauses schema tests start all
    ends-all right says is empty = (λ told. at-line.1 (says.0 is, inl empty), λ refutes. refl)

    -- it is right, and its clause isn't empty
    pub adds-one : (new : List Clause) (right : Bool) → IsTrue right ↔ IsRightLine schema tests clauses line → right ≡ true → clause_of line ≢ [] → new ≡ clauses ++ clause_of line ∷ [] → RefuteAlike start all new (drop (k + 1) all)
    adds-one new right says is more added =
        let rest = drop (k + 1) all in (
          λ refutes.
              elim (at-line.0 refutes).1 [
                | inl empty ↦ absurd (more empty)
                | inr behind ↦ subst (λ (x : List Clause). RefuteClauses schema tests x rest) (sym added) behind
              ],
          λ behind. at-line.1 (says.0 is, inr (subst (λ (x : List Clause). RefuteClauses schema tests x rest) added behind)),
        )

  -- no line is left
  pub none-left : (start clauses : List Clause) (all : List Line) (k : ℕ) → length all ≤ k → RefuteAlike start all clauses (drop k all) → IsTrue false ↔ RefuteClauses schema tests start all
  none-left start clauses all k past alike = (
    λ told. absurd (cc),
    λ refutes. absurd (subst (RefuteClauses schema tests clauses) (drop_all k all past) (alike.0 refutes)),
  )
