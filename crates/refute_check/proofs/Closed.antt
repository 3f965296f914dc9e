-- A refutation that closes under a path leaves no valid request that answers the path and makes the tree met.
use Rattle.std.proofs.Common.{◌≡◌, ◌↔◌, ℕ, Bool, true, false, List, [], ◌∷◌, ◌++◌, length, get_or, slice_get, Some, None, MatchBool, IsTrue, All, refl, sym, ◌∙◌, subst, inl, inr, append-nil, append_assoc}
use Rattle.std.proofs.lemmas.Bool.{cases_Bool}
use Rattle.std.proofs.lemmas.List.Elements.{All-nil, All-push}
use Rattle.std.proofs.lemmas.Option.{slice_get-get_or}
use Rattle.cnf_clauses.specs.Numbering.{clauses_of}
use Rattle.cnf_clauses.specs.Replays.{Replays}
use Rattle.cnf_clauses.proofs.Cited.{exclude_yes}
use Rattle.formula_tree.specs.Answers.{Answers, Completes, answer_of}
use Rattle.formula_tree.specs.Runs.{path_with}
use Rattle.formula_tree.specs.Trees.{Tree}
use Rattle.formula_tree.specs.Values.{holds}
use Rattle.formula_tree.proofs.Laws.{answer_of-besides, answer_of-last, cases_eq, says-no}
use Rattle.policy_model.specs.declared.request.Request.{Request}
use Rattle.policy_model.specs.declared.schema.Schema.{Schema}
use Rattle.policy_model.specs.declared.test.Test.{Test}
use Rattle.policy_model.specs.declared.test.Test.TheVariants.{Action}
use Rattle.policy_model.specs.Requests.{IsValid}
use Rattle.policy_model.specs.Tests.{TestHolds}
use Rattle.policy_compile.specs.Meaning.{AnswersAs}
use Rattle.slot_theory.specs.Possible.{AnswersPath, PathInRange}
use Rattle.slot_theory.proofs.Laws.{core_impossible, path-core}
use Rattle.refute_check.specs.Closing.{Before, Closes, IsReuse, after_part, at_first, inside_label}
use Rattle.refute_check.specs.Laws.{ClosedPathsAreNo, ClosedQueriesAreNo, TreeInRange}
use Rattle.refute_check.specs.Proofs.{Proof, by_clauses, by_slot, by_value, ended_in, label, reuse, split}
use Rattle.refute_check.proofs.Ranges.{all-in-range, range_more}

-- one more answer that the request gives
completes_more : (total : ℕ → Bool) (path : Answers) (n : ℕ) (b : Bool) → answer_of path n ≡ None → total n ≡ b → Completes total path → Completes total (path_with path n b)
completes_more total path n b new is before m c here =
    elim (cases_eq m n) [
      | inl same ↦
          let last : answer_of (path_with path n b) m ≡ Some b = subst (λ (k : ℕ). answer_of (path_with path n b) k ≡ Some b) (sym same) (answer_of-last path n b new) in
          let told : total m ≡ b = subst (λ (k : ℕ). total k ≡ b) (sym same) is in
          cc
      | inr other ↦ before m c (sym (answer_of-besides path n b m other) ∙ here)
    ]

by_answer : (b : Bool) (A : Type 0) → IsTrue b ↔ A → MatchBool b A (¬ A)
by_answer true A says = says.0 refl
by_answer false A says = λ a. let yes : false ≡ true = says.1 a in absurd (cc)

answers_path : (tests : List Test) (r : Request) (total : ℕ → Bool) (path : Answers) → AnswersAs total r tests → Completes total path → AnswersPath tests path r
answers_path tests r total path answers completes n b t answered is = subst (λ (x : Bool). MatchBool x (TestHolds r t) (¬ TestHolds r t)) (completes n b answered) (by_answer (total n) (TestHolds r t) (answers n t is))

-- One request that makes the tree met, with its answers: it completes no path that closes, and no answers of a label that ended.
module _ (schema : Schema) (tests : List Test) (tree : Tree) (range : TreeInRange tests tree) (r : Request) (valid : IsValid schema r) (total : ℕ → Bool) (answers : AnswersAs total r tests) (met : holds total tree ≡ true) where
  abbrev Misses : Answers → Type 0
  Misses path = Completes total path → ⊥

  abbrev AllMiss : List (ℕ × Answers) → Type 0
  AllMiss ended = All (λ l. Misses l.1) ended

  misses-reuse : (before : Before) (n : ℕ) (path : Answers) → AllMiss before.ended → IsReuse before n path → Misses path
  misses-reuse before n path right (k, l, small, is, said) completes =
      subst (λ (x : ℕ × Answers). Misses x.1) is (right k l small) (λ m b here. completes m b (said.1 m b here))

  misses-clauses : (hints : List ℕ) (path : Answers) → PathInRange tests path → Replays (clauses_of (length tests) tree) path hints → Misses path
  misses-clauses hints path here replays completes =
      let refused = exclude_yes (length tests) tree path hints total range (all-in-range tests path here) replays completes in
      cc

  closed-misses : (p : Proof) (before : Before) (path : Answers) → PathInRange tests path → AllMiss before.ended → Closes schema tests tree before p path → Misses path × AllMiss (before.ended ++ ended_in p)
  closed-misses (split n y z) before path here right closes =
      let yes = closed-misses y before (path_with path n true) (range_more tests path n true here closes.0.0) right closes.1 in
      let no = closed-misses z (after_part before y) (path_with path n false) (range_more tests path n false here closes.0.0) yes.1 closes.2 in (
        λ completes.
            elim (cases_Bool (total n)) [
              | inl e ↦ yes.0 (completes_more total path n true closes.0.1 e completes)
              | inr e ↦ no.0 (completes_more total path n false closes.0.1 e completes)
            ],
        subst AllMiss (append_assoc before.ended (ended_in y) (ended_in z)) no.1,
      )
  closed-misses (label n inner p) before path here right closes =
      let inside = closes.0.there in
      let own = closed-misses p (inside_label before) inner (λ m b given. here m b (inside m b given)) right closes.1 in (
        λ completes. own.0 (λ m b given. completes m b (inside m b given)),
        subst AllMiss (append_assoc before.ended (ended_in p) ((n, inner) ∷ [])) (All-push (λ (l : ℕ × Answers). Misses l.1) (before.ended ++ ended_in p) (n, inner) own.1 own.0),
      )
  closed-misses by_value before path here right closes =
      (λ completes. let refused = says-no path tree total completes closes in cc, subst AllMiss (sym (append-nil before.ended)) right)
  closed-misses (by_slot core proof) before path here right closes =
      (λ completes. core_impossible schema tests path core proof closes r valid (path-core tests path core r (answers_path tests r total path answers completes)), subst AllMiss (sym (append-nil before.ended)) right)
  closed-misses (by_clauses hints) before path here right closes = (misses-clauses hints path here closes, subst AllMiss (sym (append-nil before.ended)) right)
  closed-misses (reuse n) before path here right closes = (misses-reuse before n path right closes, subst AllMiss (sym (append-nil before.ended)) right)

same_answer : (b c : Bool) (A : Type 0) → IsTrue c ↔ A → MatchBool b A (¬ A) → c ≡ b
same_answer true c A says here = says.1 here
same_answer false true A says here = absurd (here (says.0 refl))
same_answer false false A says here = refl

-- the answers of a request that answers the path complete it
pub completes_by : (tests : List Test) (path : Answers) (r : Request) (total : ℕ → Bool) → PathInRange tests path → AnswersPath tests path r → AnswersAs total r tests → Completes total path
completes_by tests path r total range answers given n b here =
    let t = get_or tests n (Action []) in
    let at : slice_get tests n ≡ Some t = slice_get-get_or tests n (Action []) (range n b here) in
    same_answer b (total n) (TestHolds r t) (given n t at) (answers n b t here at)

pub paths_are_no : ClosedPathsAreNo
paths_are_no schema tests tree proof path range here closes r met =
    let (total, given, made) = met.meets in
    (closed-misses schema tests tree range r met.valid total given made proof at_first path here (All-nil (λ (l : ℕ × Answers). Completes total l.1 → ⊥)) closes).0 (completes_by tests path r total here met.answers given)

pub queries_are_no : ClosedQueriesAreNo
queries_are_no schema tests tree proof range closes r valid meets =
    paths_are_no schema tests tree proof [] range (λ n b none. absurd (cc)) closes r (record { valid = valid; answers = λ n b t none. absurd (cc); meets = meets })
