-- Lines that refute a tree leave no valid request that makes it yes.
use Rattle.std.proofs.Common.{◌≡◌, ◌↔◌, ◌<◌, ℕ, List, [], ◌∷◌, ◌++◌, length, map, Bool, true, false, MatchBool, IsTrue, refl, sym, ◌∙◌, subst, inl, inr}
use Rattle.std.proofs.lemmas.Option.{slice_get_within}
use Rattle.formula_tree.specs.Answers.{Answers, Completes}
use Rattle.cnf_clauses.specs.Literals.{AreSatisfied, Clause, IsSatisfied, Literal, complement}
use Rattle.cnf_clauses.specs.Numbering.{clauses_of}
use Rattle.cnf_clauses.proofs.Cited.{have_truths, never_replay}
use Rattle.policy_model.specs.declared.request.Request.{Request}
use Rattle.policy_model.specs.declared.schema.Schema.{Schema}
use Rattle.policy_model.specs.declared.test.Test.{Test}
use Rattle.policy_model.specs.Requests.{IsValid}
use Rattle.policy_model.specs.Tests.{TestHolds}
use Rattle.policy_compile.specs.Meaning.{AnswersAs}
use Rattle.slot_theory.specs.declared.outcome.SlotProof.{SlotProof}
use Rattle.slot_theory.specs.Cores.{Accepts}
use Rattle.slot_theory.specs.Possible.{AnswersCore}
use Rattle.slot_theory.proofs.Laws.{core_impossible}
use Rattle.clause_proofs.specs.declared.lines.Line.{Line}
use Rattle.clause_proofs.specs.declared.lines.Line.TheVariants.{Derived, Excluded}
use Rattle.clause_proofs.specs.Laws.{ClausalProofsRefute}
use Rattle.clause_proofs.specs.Refuting.{IsRightLine, RefuteClauses, clause_of}
use Rattle.clause_proofs.proofs.Falsifying.{twice}
use Rattle.clause_proofs.proofs.Satisfying.{empty-unsatisfied, more-satisfied, satisfied-or-false}

by-answer : (b : Bool) (A : Type 0) → IsTrue b ↔ A → MatchBool b A (¬ A)
by-answer true A says = says.0 refl
by-answer false A says = λ a. let told : false ≡ true = says.1 a in absurd (cc)

-- One valid request with its answers, and a truth of every variable that gives the tests these answers: it satisfies the clause of each
-- line that is right behind clauses that it satisfies.
module _ (schema : Schema) (tests : List Test) (r : Request) (valid : IsValid schema r) (total : ℕ → Bool) (given : AnswersAs total r tests) (truth : ℕ → Bool) (agree : (n : ℕ) → n < length tests → truth n ≡ total n) where
  core-answered : (answers : Answers) (core : List ℕ) → Completes truth answers → AnswersCore tests answers core r
  core-answered answers core full n b t stands is at =
      let own : total n ≡ b = sym (agree n (slice_get_within tests n t at)) ∙ full n b is in
      subst (λ (x : Bool). MatchBool x (TestHolds r t) (¬ TestHolds r t)) own (by-answer (total n) (TestHolds r t) (given n t at))

  excluded-misses : (answers : Answers) (proof : SlotProof) → Accepts schema tests answers (map (λ (a : Literal). a.0) answers) proof → Completes truth answers → ⊥
  excluded-misses answers proof accepted full =
      let core = map (λ (a : Literal). a.0) answers in
      core_impossible schema tests answers core proof accepted r valid (core-answered answers core full)

  line-satisfied : (clauses : List Clause) (line : Line) → AreSatisfied truth clauses → IsRightLine schema tests clauses line → IsSatisfied truth (clause_of line)
  line-satisfied clauses (Derived clause hints) good right =
      elim (satisfied-or-false truth clause) [
        | inl satisfied ↦ satisfied
        | inr full ↦ absurd (never_replay truth clauses (map complement clause) hints good full right.justified)
      ]
  line-satisfied clauses (Excluded answers proof) good right =
      elim (satisfied-or-false truth (map complement answers)) [
        | inl satisfied ↦ satisfied
        | inr full ↦ absurd (excluded-misses answers proof.value right.justified (subst (Completes truth) (twice answers) full))
      ]

  none-refute : (lines : List Line) (clauses : List Clause) → AreSatisfied truth clauses → RefuteClauses schema tests clauses lines → ⊥
  none-refute [] clauses good refutes = refutes
  none-refute (line ∷ lines) clauses good refutes =
      let own = line-satisfied clauses line good refutes.0 in
      elim refutes.1 [
        | inl empty ↦ empty-unsatisfied truth (clause_of line) empty own
        | inr behind ↦ none-refute lines (clauses ++ clause_of line ∷ []) (more-satisfied truth clauses (clause_of line) good own) behind
      ]

pub refute : ClausalProofsRefute
refute schema tests tree lines range refutes r valid meets =
    let (total, given, made) = meets in
    let (truth, is) = have_truths (length tests) tree total range made in
    none-refute schema tests r valid total given truth is.answers lines (clauses_of (length tests) tree) is.satisfies refutes
