-- A tree evaluated by a list of answers.
use Rattle.std.proofs.Common.{◌≡◌, ◌↔◌, ℕ, zero, suc, ◌+◌, ◌<◌, ◌≤◌, Bool, true, false, ◌&&◌, ◌||◌, List, [], ◌∷◌, ◌++◌, Some, length, get_or, take, inl, inr, refl, sym, ap, subst, ◌∙◌, arith}
use Rattle.std.specs.Prelude.{IsTrue, slice_get}
use Rattle.std.proofs.lemmas.List.{length-append, take_all, take_more}
use Rattle.std.proofs.lemmas.Option.{slice_get_within}
use Rattle.formula_tree.specs.Trees.{Tree, of_list, tree_of}
use Rattle.formula_tree.specs.declared.formula.Formula.{Formula}
use Rattle.formula_tree.specs.Values.{AreBelow, each_holds, holds, some_holds}
use Rattle.policy_model.specs.declared.request.Request.{Request}
use Rattle.policy_model.specs.declared.test.Test.{Test}
use Rattle.policy_model.specs.Tests.{TestHolds}
use Rattle.policy_compile.specs.declared.outcome.Query.{Query}
use Rattle.findings.specs.Judging.{AreAnswersOf, DecidesAllowed, nth_answer}
use Rattle.findings.proofs.Plans.{at-last}
use Rattle.findings.proofs.Trees.{take_next}

-- ---- the answers

pub answers-none : (r : Request) (tests : List Test) (answers : List Bool) → answers ≡ [] → AreAnswersOf r (take 0 tests) answers
answers-none r tests answers empty = record { count = ap length empty; says = λ n t at. absurd (cc) }

before-answer : (xs : List Bool) (b : Bool) (n : ℕ) → n < length xs → nth_answer (xs ++ b ∷ []) n ≡ nth_answer xs n
before-answer [] b n within = absurd (omega (arith, within))
before-answer (x ∷ xs) b zero within = refl
before-answer (x ∷ xs) b (suc n) within = before-answer xs b n (omega (arith, within))

last-answer : (xs : List Bool) (b : Bool) → nth_answer (xs ++ b ∷ []) (length xs) ≡ b
last-answer [] b = refl
last-answer (x ∷ xs) b = last-answer xs b

answers-more : (r : Request) (tests : List Test) (t : Test) (xs : List Bool) (b : Bool) → AreAnswersOf r tests xs → (IsTrue b ↔ TestHolds r t) → AreAnswersOf r (tests ++ t ∷ []) (xs ++ b ∷ [])
answers-more r tests t xs b before says = record {
  count = (let one = length-append xs (b ∷ []) in let other = length-append tests (t ∷ []) in omega (arith, one, other, before.count));
  says = λ n u at. elim (at-last tests t n u at) [
    | inl old ↦ (
        let room = slice_get_within tests n u old in
        let same = before-answer xs b n (omega (arith, room, before.count)) in
        subst (λ (x : Bool). IsTrue x ↔ TestHolds r u) (sym same) (before.says n u old))
    | inr last ↦ (
        let at_end : n ≡ length xs = omega (arith, last.0, before.count) in
        let same : nth_answer (xs ++ b ∷ []) n ≡ b = ap (nth_answer (xs ++ b ∷ [])) at_end ∙ last-answer xs b in
        subst (λ (x : Bool). IsTrue x ↔ TestHolds r u) (sym same) (subst (λ (x : Test). IsTrue b ↔ TestHolds r x) last.1 says))
  ];
}

pub answers-next : (r : Request) (tests : List Test) (i : ℕ) (t : Test) (xs ys : List Bool) (b : Bool) → i < length tests → t ≡ get_or tests i t → AreAnswersOf r (take i tests) xs → (IsTrue b ↔ TestHolds r t) → ys ≡ xs ++ b ∷ [] → AreAnswersOf r (take (i + 1) tests) ys
answers-next r tests i t xs ys b within is before says grows =
    let one : take (i + 1) tests ≡ take i tests ++ t ∷ [] = take_more tests i t within ∙ ap (λ (x : Test). take i tests ++ x ∷ []) (sym is) in
    subst (λ (ts : List Test). AreAnswersOf r ts ys) (sym one) (subst (AreAnswersOf r (take i tests ++ t ∷ [])) (sym grows) (answers-more r (take i tests) t xs b before says))

-- ---- branches, one after another

both : (a b : Bool) → a ≡ true → b ≡ true → (a && b) ≡ true
both true true p q = refl
both true false p q = q
both false b p q = p

second-false : (a b : Bool) → b ≡ false → (a && b) ≡ false
second-false true b e = e
second-false false b e = refl

second-true : (a b : Bool) → b ≡ true → (a || b) ≡ true
second-true true b e = refl
second-true false b e = e

neither : (a b : Bool) → a ≡ false → b ≡ false → (a || b) ≡ false
neither true b p q = p
neither false b p q = q

and-first : (a b : Bool) → (a && b) ≡ true → a ≡ true
and-first true b e = refl
and-first false b e = e

and-second : (a b : Bool) → (a && b) ≡ true → b ≡ true
and-second true b e = e
and-second false b e = absurd (cc)

or-first : (a b : Bool) → (a || b) ≡ false → a ≡ false
or-first true b e = e
or-first false b e = refl

or-second : (a b : Bool) → (a || b) ≡ false → b ≡ false
or-second true b e = absurd (cc)
or-second false b e = e

module _ (answers : ℕ → Bool) where
  each-append : (xs : List Tree) (t : Tree) → each_holds answers (of_list xs) ≡ true → holds answers t ≡ true → each_holds answers (of_list (xs ++ t ∷ [])) ≡ true
  each-append [] t all here = both (holds answers t) true here refl
  each-append (x ∷ xs) t all here =
      both (holds answers x) (each_holds answers (of_list (xs ++ t ∷ []))) (and-first (holds answers x) (each_holds answers (of_list xs)) all)
      (each-append xs t (and-second (holds answers x) (each_holds answers (of_list xs)) all) here)

  some-append : (xs : List Tree) (t : Tree) → some_holds answers (of_list xs) ≡ false → holds answers t ≡ false → some_holds answers (of_list (xs ++ t ∷ [])) ≡ false
  some-append [] t none here = neither (holds answers t) false here refl
  some-append (x ∷ xs) t none here =
      neither (holds answers x) (some_holds answers (of_list (xs ++ t ∷ []))) (or-first (holds answers x) (some_holds answers (of_list xs)) none)
      (some-append xs t (or-second (holds answers x) (some_holds answers (of_list xs)) none) here)

  pub each-next : (ts : List Tree) (i : ℕ) (t : Tree) → Some t ≡ slice_get ts i → each_holds answers (of_list (take i ts)) ≡ true → holds answers t ≡ true → each_holds answers (of_list (take (i + 1) ts)) ≡ true
  each-next ts i t at before here = ap (λ (xs : List Tree). each_holds answers (of_list xs)) (take_next ts i t at) ∙ each-append (take i ts) t before here

  pub some-next : (ts : List Tree) (i : ℕ) (t : Tree) → Some t ≡ slice_get ts i → some_holds answers (of_list (take i ts)) ≡ false → holds answers t ≡ false → some_holds answers (of_list (take (i + 1) ts)) ≡ false
  some-next ts i t at before here = ap (λ (xs : List Tree). some_holds answers (of_list xs)) (take_next ts i t at) ∙ some-append (take i ts) t before here

  pub each-false : (ts : List Tree) (i : ℕ) (t : Tree) → Some t ≡ slice_get ts i → holds answers t ≡ false → each_holds answers (of_list ts) ≡ false
  each-false [] i t at here = absurd (cc)
  each-false (x ∷ xs) zero t at here = let same : t ≡ x = cc in ap (λ (b : Bool). b && each_holds answers (of_list xs)) (sym (ap (holds answers) same) ∙ here)
  each-false (x ∷ xs) (suc i) t at here = second-false (holds answers x) (each_holds answers (of_list xs)) (each-false xs i t at here)

  pub some-true : (ts : List Tree) (i : ℕ) (t : Tree) → Some t ≡ slice_get ts i → holds answers t ≡ true → some_holds answers (of_list ts) ≡ true
  some-true [] i t at here = absurd (cc)
  some-true (x ∷ xs) zero t at here = let same : t ≡ x = cc in ap (λ (b : Bool). b || some_holds answers (of_list xs)) (sym (ap (holds answers) same) ∙ here)
  some-true (x ∷ xs) (suc i) t at here = second-true (holds answers x) (some_holds answers (of_list xs)) (some-true xs i t at here)

  pub each-done : (ts : List Tree) (i : ℕ) → length ts ≤ i → each_holds answers (of_list (take i ts)) ≡ true → each_holds answers (of_list ts) ≡ true
  each-done ts i past e = sym (ap (λ (xs : List Tree). each_holds answers (of_list xs)) (take_all i ts past)) ∙ e

  pub some-done : (ts : List Tree) (i : ℕ) → length ts ≤ i → some_holds answers (of_list (take i ts)) ≡ false → some_holds answers (of_list ts) ≡ false
  some-done ts i past e = sym (ap (λ (xs : List Tree). some_holds answers (of_list xs)) (take_all i ts past)) ∙ e

-- what a branch is told to be, read through its sharing
pub read-as : (answers : ℕ → Bool) (f lent : Formula) (told is : Bool) → lent ≡ f → told ≡ holds answers (tree_of lent) → told ≡ is → holds answers (tree_of f) ≡ is
read-as answers f lent told is same says known = sym (ap (λ (g : Formula). holds answers (tree_of g)) same) ∙ sym says ∙ known

-- ---- the whole

-- the answers and the formula as they are lent
pub range-lent : (base : Query) (r : Request) (answers lent : List Bool) (f : Formula) → AreBelow (length base.tests) (tree_of base.formula.value) → AreAnswersOf r base.tests answers → lent ≡ answers → f ≡ base.formula.value → AreBelow (length lent) (tree_of f)
range-lent base r answers lent f below are same is =
    subst (λ (g : Formula). AreBelow (length lent) (tree_of g)) (sym is) (subst (λ (n : ℕ). AreBelow n (tree_of base.formula.value)) (sym (ap length same ∙ are.count)) below)

pub allowed-told : (base : Query) (r : Request) (answers lent : List Bool) (f : Formula) (b : Bool) → AreAnswersOf r base.tests answers → lent ≡ answers → f ≡ base.formula.value → b ≡ holds (nth_answer lent) (tree_of f) → DecidesAllowed base r b
allowed-told base r answers lent f b are same of says schema region query valid =
    let same_value : b ≡ holds (nth_answer answers) (tree_of base.formula.value) = says ∙ ap (λ (xs : List Bool). holds (nth_answer xs) (tree_of f)) same ∙ ap (λ (g : Formula). holds (nth_answer answers) (tree_of g)) of in
    let lies = query.says r (nth_answer answers) valid are.says in
    (λ h. lies.0 (sym same_value ∙ h), λ h. same_value ∙ lies.1 h)
