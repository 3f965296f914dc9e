-- What one more answer of the path makes of what was decided.
use Rattle.std.proofs.Common.{◌≡◌, ℕ, List, [], ◌∷◌, ◌++◌, length, take, get_or, arith, Bool, true, false, not, Option, Some, None, inl, inr, refl, sym, ap, subst, ◌∙◌}
use Rattle.std.proofs.lemmas.List.{take_all, take_at}
use Rattle.formula_tree.specs.Answers.{Answers, answer_of, Contained}
use Rattle.formula_tree.proofs.Laws.{answer_of-more, answer_of-last, cases_eq}
use Rattle.cnf_clauses.specs.Literals.{Clause, Literal, IsRefuted, IsUnit}
use Rattle.cnf_clauses.specs.Explains.{Agree, IsAnsweredAt, IsRefutedAt}
use Rattle.cnf_clauses.specs.Propagates.{AreQuiet}
use Rattle.cnf_clauses.specs.Reasons.{Extends, HaveReasons, IsReason}
use Rattle.cnf_clauses.specs.Trails.{HasOthers, IsOpposite}
use Rattle.cnf_clauses.proofs.Explains.{false-behind, refuted-behind}
use Rattle.cnf_clauses.proofs.Extending.{extends-answer, take-answer}
use Rattle.cnf_clauses.proofs.Reasons.{reasons-at, reasons-more}
use Rattle.cnf_clauses.proofs.Settling.{quiet-grows}

same_some : (a b : Bool) → Some a ≡ Some b → a ≡ b
same_some a b e = cc

-- all answers are decided, where the last one is
pub others-all : (path d : Answers) (test : ℕ) (answer : Bool) → HasOthers test path d → answer_of path test ≡ Some answer → answer_of d test ≡ Some answer → Contained path d
others-all path d test answer others here decided n b h =
    elim (cases_eq n test) [
      | inl e ↦
          let same : Some answer ≡ Some b = sym here ∙ sym (ap (λ (x : ℕ). answer_of path x) e) ∙ h in
          ap (λ (x : ℕ). answer_of d x) e ∙ decided ∙ same
      | inr ne ↦ others n b ne h
    ]

-- ---- an answer that was decided before

not-itself : (b : Bool) → b ≡ not b → ⊥
not-itself true e = absurd (cc)
not-itself false e = absurd (cc)

twice : (b : Bool) → b ≡ not (not b)
twice true = refl
twice false = refl

-- the opposite answer has a clause as its reason
contradicted-reason : (cs : List Clause) (path before : Answers) (test : ℕ) (b : Bool) (r : Option ℕ) → IsReason cs path before (test, not b) r → answer_of path test ≡ Some b → r ≡ None → ⊥
contradicted-reason cs path before test b r reason here none =
    let there : answer_of path test ≡ Some (not b) = subst (λ (x : Option ℕ). IsReason cs path before (test, not b) x) none reason in
    not-itself b (same_some b (not b) (sym here ∙ there))

pub opposite-clause : (cs : List Clause) (path d : Answers) (r : List (Option ℕ)) (test index : ℕ) (found : Option ℕ) → HaveReasons cs path [] d r → IsOpposite test path d → IsAnsweredAt test index d →
    found ≡ get_or r index None → found ≡ None → ⊥
opposite-clause cs path d r test index found reasons (b, here, decided) answered read none =
    contradicted-reason cs path (take index d) test b (get_or r index None) (reasons-at cs path [] d r index (test, not b) reasons (answered (not b) decided)) here (sym read ∙ none)

-- what was decided before it agrees with the path
pub opposite-agrees : (path d : Answers) (test index : ℕ) → HasOthers test path d → answer_of (take index d) test ≡ None → Agree path (take index d)
opposite-agrees path d test index others before v b c p q =
    elim (cases_eq v test) [
      | inl e ↦ let bad : None ≡ Some c = sym before ∙ sym (ap (λ (x : ℕ). answer_of (take index d) x) e) ∙ q in absurd (cc)
      | inr ne ↦ same_some b c (sym (others v b ne p) ∙ take-answer d index v c q)
    ]

unit-refuted : (path before : Answers) (c : Clause) (test : ℕ) (b : Bool) → Agree path before → answer_of path test ≡ Some b → IsUnit before c (test, not b) → IsRefuted (path ++ before) c
unit-refuted path before c test b agree here u m k =
    elim (u.others m k) [
      | inl e ↦ subst (λ (x : Literal). answer_of (path ++ before) x.0 ≡ Some (not x.1)) (sym e) (answer_of-more path before test (not (not b)) (here ∙ ap (λ (x : Bool). Some x) (twice b)))
      | inr f ↦ false-behind path before m agree f
    ]

pub opposite-refuted : (cs : List Clause) (path d : Answers) (r : List (Option ℕ)) (test index : ℕ) (found : Option ℕ) (n : ℕ) → HaveReasons cs path [] d r → HasOthers test path d → IsOpposite test path d →
    answer_of (take index d) test ≡ None → IsAnsweredAt test index d → found ≡ get_or r index None → found ≡ Some n → IsRefutedAt cs (path ++ take index d) n
opposite-refuted cs path d r test index found n reasons others (b, here, decided) before answered read some =
    let reason : IsReason cs path (take index d) (test, not b) (Some n) =
    subst (λ (x : Option ℕ). IsReason cs path (take index d) (test, not b) x) (sym read ∙ some) (reasons-at cs path [] d r index (test, not b) reasons (answered (not b) decided)) in
    let (c, there, u) = reason in
    (c, there, unit-refuted path (take index d) c test b (opposite-agrees path d test index others before) here u)

-- ---- an answer that is followed

pub answer-reasons : (cs : List Clause) (path d d1 : Answers) (r r1 : List (Option ℕ)) (test : ℕ) (answer : Bool) → HaveReasons cs path [] d r → answer_of path test ≡ Some answer →
    d1 ≡ d ++ (test, answer) ∷ [] → r1 ≡ r ++ None ∷ [] → HaveReasons cs path [] d1 r1
answer-reasons cs path d d1 r r1 test answer old here e f = rw (e, f) (reasons-more cs path [] d r ((test, answer) ∷ []) (None ∷ []) old (here, tt))

pub answer-quiet : (cs : List Clause) (d d1 : Answers) (from test : ℕ) (answer : Bool) → AreQuiet cs d d → from ≡ length d → d1 ≡ d ++ (test, answer) ∷ [] → AreQuiet cs (take from d1) d1
answer-quiet cs d d1 from test answer quiet start e =
    let before : take from d1 ≡ d = ap (λ (x : Answers). take from x) e ∙ take_at d ((test, answer) ∷ []) from (sym start) in
    rw (before, e) (λ i c there. quiet-grows d d ((test, answer) ∷ []) c (quiet i c there))

pub answer-all : (path d d1 d2 : Answers) (test : ℕ) (answer : Bool) → HasOthers test path d → answer_of path test ≡ Some answer → answer_of d test ≡ None → d1 ≡ d ++ (test, answer) ∷ [] → Extends d1 d2 → Contained path d2
answer-all path d d1 d2 test answer others here open_there e more =
    let last : answer_of d1 test ≡ Some answer = ap (λ (x : Answers). answer_of x test) e ∙ answer_of-last d test answer open_there in
    others-all path d2 test answer (λ n b ne h. extends-answer d1 d2 n b more (ap (λ (x : Answers). answer_of x n) e ∙ answer_of-more d ((test, answer) ∷ []) n b (others n b ne h)))
    here (extends-answer d1 d2 test answer more last)

pub contained-agrees : (path d : Answers) (n : ℕ) → n ≡ length d → Contained path d → Agree path (take n d)
contained-agrees path d n e inside v b c p q = same_some b c (sym (inside v b p) ∙ take-answer d n v c q)

pub contained-refuted : (cs : List Clause) (path d : Answers) (n number : ℕ) → n ≡ length d → Contained path d → IsRefutedAt cs d number → IsRefutedAt cs (path ++ take n d) number
contained-refuted cs path d n number e inside (c, there, all) =
    let whole : take n d ≡ d = take_all n d (omega arith) in
    (c, there, refuted-behind path (take n d) c (contained-agrees path d n e inside) (rw whole all))

pub nothing-contained : (p d : Answers) → p ≡ [] → Contained p d
nothing-contained p d e n b h = let bad : None ≡ Some b = sym (ap (λ (x : Answers). answer_of x n) e) ∙ h in absurd (cc)
