-- What is said of the statements, one after another.
use Rattle.std.proofs.Common.{◌≡◌, ◌∙◌, ◌<◌, ◌+◌, ◌++◌, ◌||◌, ℕ, Bool, true, false, List, [], ◌∷◌, map, take, length, get_or, refl, ap, arith, subst, sym}
use Rattle.std.specs.Prelude.{Contains}
use Rattle.std.specs.List.{AllZip, list_any}
use Rattle.std.proofs.lemmas.List.{append-nil, append_assoc, get_or-map, length-map, take_more}
use Rattle.std.proofs.lemmas.List.Elements.{Contains-get_or}
use Rattle.std.proofs.lemmas.List.Folds.{list_any-append}
use Rattle.policy_model.specs.declared.set.PolicySet.{PolicySet}
use Rattle.policy_model.specs.declared.set.StatementName.{StatementName}
use Rattle.policy_model.specs.StatementNames.{Named, named_set}
use Rattle.run_inputs.specs.declared.one_set.OneSet.{OneSet}
use Rattle.set_questions.specs.Idle.{IsNameIn}
use Rattle.tree_search.specs.declared.outcome.Budgets.{Budgets}
use Rattle.idle_answers.specs.declared.answer.UseAnswer.{UseAnswer}
use Rattle.idle_answers.specs.declared.printing.Told.{Told}
use Rattle.idle_answers.specs.Telling.{AddsUse, AreUsesWritten, AddsNextUse}
use Rattle.idle_answers.specs.UseAnswers.{IsUseAnswer, IsUseAnswerAt}
use Rattle.idle_answers.specs.UseTexts.{is_idle, is_undecided, statement_start, statements_line, use_lines, use_text}

-- ---- lists

all_more : {A B : Type 0} (R : A → B → Type 0) (xs : List A) (ys : List B) (x : A) (y : B) → AllZip R xs ys → R x y → AllZip R (xs ++ x ∷ []) (ys ++ y ∷ [])
all_more R [] [] x y h r = (r, tt)
all_more R [] (b ∷ ys) x y h r = absurd h
all_more R (a ∷ xs) [] x y h r = absurd h
all_more R (a ∷ xs) (b ∷ ys) x y h r = (h.0, all_more R xs ys x y h.1 r)

-- the lines of one more statement
lines_more : (R : Named → UseAnswer → Type 0) (ns : List Named) (answers : List UseAnswer) (n : Named) (a : UseAnswer) → AllZip R ns answers
    → use_lines (ns ++ n ∷ []) (answers ++ a ∷ []) ≡ use_lines ns answers ++ (statement_start n.0 ++ use_text a)
lines_more R [] [] n a h = append-nil (statement_start n.0 ++ use_text a)
lines_more R [] (b ∷ answers) n a h = absurd h
lines_more R (m ∷ ns) [] n a h = absurd h
lines_more R (m ∷ ns) (b ∷ answers) n a h =
    ap (λ (t : List ℕ). (statement_start m.0 ++ use_text b) ++ t) (lines_more R ns answers n a h.1)
    ∙ sym (append_assoc (statement_start m.0 ++ use_text b) (use_lines ns answers) (statement_start n.0 ++ use_text a))

or_false : (b : Bool) → (b || false) ≡ b
or_false true = refl
or_false false = refl

any_more : {X : Type 0} (p : X → Bool) (xs : List X) (x : X) → list_any p (xs ++ x ∷ []) ≡ (list_any p xs || p x)
any_more p xs x = list_any-append p xs (x ∷ []) ∙ ap (λ b. list_any p xs || b) (or_false (p x))

-- ---- one more statement

same_length : (ns : List Named) (names : List StatementName) → names ≡ map (λ n. n.0) ns → length names ≡ length ns
same_length ns names is = ap (λ (l : List StatementName). length l) is ∙ length-map ns (λ (m : Named). m.0)

-- the statement of a name that is read
named_at : (ns : List Named) (names : List StatementName) (k : ℕ) (d : StatementName) → names ≡ map (λ n. n.0) ns → k < length names
    → (n : Named) × (take (k + 1) ns ≡ take k ns ++ n ∷ []) × Contains ns n × (n.0 ≡ get_or names k d)
named_at [] names k d is within =
    let none : length names ≡ 0 = same_length [] names is in
    absurd (omega arith)
named_at (n ∷ ns) names k d is within =
    let few : k < length (n ∷ ns) = omega (arith, same_length (n ∷ ns) names is) in
    let read : get_or names k d ≡ (get_or (n ∷ ns) k n).0 = ap (λ (l : List StatementName). get_or l k d) is ∙ get_or-map (λ (m : Named). m.0) (n ∷ ns) k n d few in
    (get_or (n ∷ ns) k n, take_more (n ∷ ns) k n few, Contains-get_or (n ∷ ns) k n few, sym read)

-- its name is one of the set's
pub name_there : (set : PolicySet) (names : List StatementName) (k : ℕ) (d : StatementName) → names ≡ map (λ n. n.0) (named_set set) → k < length names
    → IsNameIn set (get_or names k d)
name_there set names k d is within =
    let found = named_at (named_set set) names k d is within in
    let there = found.2 in
    (there.0, found.0, there.1, there.2, found.3)

told_more : (certified : Bool) (budgets : Budgets) (one : OneSet) (ns : List Named) (n : Named) (a : UseAnswer) (before after : Told)
    → AreUsesWritten certified budgets one ns before → IsUseAnswer certified budgets one n a → AddsUse n.0 a before after
    → AreUsesWritten certified budgets one (ns ++ n ∷ []) after
told_more certified budgets one ns n a before after h is adds =
    let R : Named → UseAnswer → Type 0 = IsUseAnswer certified budgets one in
    let count : List ℕ = statements_line (length (named_set one.set)) in
    let lines : List ℕ = use_lines ns h.answers in
    record {
      answers = h.answers ++ a ∷ [];
      are = all_more R ns h.answers n a h.are is;
      text = adds.text ∙ ap (λ (t : List ℕ). (t ++ statement_start n.0) ++ use_text a) h.text
          ∙ append_assoc (count ++ lines) (statement_start n.0) (use_text a)
          ∙ append_assoc count lines (statement_start n.0 ++ use_text a)
          ∙ ap (λ (t : List ℕ). count ++ t) (sym (lines_more R ns h.answers n a h.are));
      idle = adds.idle ∙ ap (λ b. b || is_idle a) h.idle ∙ sym (any_more is_idle h.answers a);
      undecided = adds.undecided ∙ ap (λ b. b || is_undecided a) h.undecided ∙ sym (any_more is_undecided h.answers a);
    }

-- what is said of one more statement of the set
pub told_next : (certified : Bool) (budgets : Budgets) (one : OneSet) (names : List StatementName) (k : ℕ) (d : StatementName) (before after : Told)
    → names ≡ map (λ n. n.0) (named_set one.set) → k < length names → AreUsesWritten certified budgets one (take k (named_set one.set)) before
    → AddsNextUse certified budgets one (get_or names k d) before after → AreUsesWritten certified budgets one (take (k + 1) (named_set one.set)) after
told_next certified budgets one names k d before after is within h next =
    let found = named_at (named_set one.set) names k d is within in
    let n : Named = found.0 in
    let here : IsUseAnswerAt certified budgets one n.0 next.answer = subst (λ (m : StatementName). IsUseAnswerAt certified budgets one m next.answer) (sym found.3) next.is in
    let added : AddsUse n.0 next.answer before after = subst (λ (m : StatementName). AddsUse m next.answer before after) (sym found.3) next.adds in
    subst (λ (l : List Named). AreUsesWritten certified budgets one l after) (sym found.1)
    (told_more certified budgets one (take k (named_set one.set)) n next.answer before after h (here n.1 found.2) added)
