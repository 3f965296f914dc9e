-- What a look at a tree gives is its value and the test that it waits for.
use Rattle.std.proofs.Common.{◌≡◌, ℕ, ◌<◌, Bool, true, false, Option, Some, None, IsSome, IfSome, if◌then◌else◌, ◌⊎◌, refl, sym, ap, ◌∙◌, inl, inr}
use Rattle.formula_tree.specs.declared.value.Three.TheVariants as three
use Rattle.formula_tree.specs.declared.looks.Look.{Look}
use Rattle.formula_tree.specs.declared.looks.Look.TheVariants.{Yes, No, Waits}
use Rattle.formula_tree.specs.Answers.{Answers, answer_of}
use Rattle.formula_tree.specs.Trees.{Tree, Trees, yes, no, test, not, all, one_of, none, more}
use Rattle.formula_tree.specs.Values.{answer_value, kleene_not, kleene_and, kleene_or, value, value_of_all, value_of_some, is_unknown, pick, pick_of_first, AreBelow, EachBelow}
use Rattle.formula_tree.specs.Looks.{value_in, pick_in, look_of_not, look_of_both, look_of_either, look_of_test, look_of_tree, look_of_all, look_of_some}

-- ---- branches in a row

pub both-assoc : (a b c : Look) → look_of_both a (look_of_both b c) ≡ look_of_both (look_of_both a b) c
both-assoc Yes b c = refl
both-assoc No b c = refl
both-assoc (Waits n) Yes c = refl
both-assoc (Waits n) No c = refl
both-assoc (Waits n) (Waits m) Yes = refl
both-assoc (Waits n) (Waits m) No = refl
both-assoc (Waits n) (Waits m) (Waits k) = refl

pub either-assoc : (a b c : Look) → look_of_either a (look_of_either b c) ≡ look_of_either (look_of_either a b) c
either-assoc Yes b c = refl
either-assoc No b c = refl
either-assoc (Waits n) No c = refl
either-assoc (Waits n) Yes c = refl
either-assoc (Waits n) (Waits m) Yes = refl
either-assoc (Waits n) (Waits m) No = refl
either-assoc (Waits n) (Waits m) (Waits k) = refl

-- ---- the value

both-value : (a b : Look) → value_in (look_of_both a b) ≡ kleene_and (value_in a) (value_in b)
both-value Yes b = refl
both-value No b = refl
both-value (Waits n) Yes = refl
both-value (Waits n) No = refl
both-value (Waits n) (Waits m) = refl

either-value : (a b : Look) → value_in (look_of_either a b) ≡ kleene_or (value_in a) (value_in b)
either-value Yes b = refl
either-value No b = refl
either-value (Waits n) Yes = refl
either-value (Waits n) No = refl
either-value (Waits n) (Waits m) = refl

turned-value : (a : Look) → value_in (look_of_not a) ≡ kleene_not (value_in a)
turned-value Yes = refl
turned-value No = refl
turned-value (Waits n) = refl

test-value : (a : Option Bool) (n : ℕ) → value_in (look_of_test a n) ≡ answer_value a
test-value None n = refl
test-value (Some true) n = refl
test-value (Some false) n = refl

-- the picked test
picked : (r : Look) (o : Option ℕ) → ((n : ℕ) → r ≡ Waits n → o ≡ Some n) → pick_in r ≡ (if is_unknown (value_in r) then o else None)
picked Yes o h = refl
picked No o h = refl
picked (Waits n) o h = sym (h n refl)

both-first : (a b : Look) (o : Option ℕ) (n : ℕ) → ((m : ℕ) → b ≡ Waits m → o ≡ Some m) → look_of_both a b ≡ Waits n → (if is_unknown (value_in a) then pick_in a else o) ≡ Some n
both-first Yes b o n h e = h n e
both-first No b o n h e = absurd (cc)
both-first (Waits m) Yes o n h e = cc
both-first (Waits m) No o n h e = absurd (cc)
both-first (Waits m) (Waits k) o n h e = cc

either-first : (a b : Look) (o : Option ℕ) (n : ℕ) → ((m : ℕ) → b ≡ Waits m → o ≡ Some m) → look_of_either a b ≡ Waits n → (if is_unknown (value_in a) then pick_in a else o) ≡ Some n
either-first No b o n h e = h n e
either-first Yes b o n h e = absurd (cc)
either-first (Waits m) No o n h e = cc
either-first (Waits m) Yes o n h e = absurd (cc)
either-first (Waits m) (Waits k) o n h e = cc

test-picks : (a : Option Bool) (n : ℕ) → pick_in (look_of_test a n) ≡ (if is_unknown (answer_value a) then Some n else None)
test-picks None n = refl
test-picks (Some true) n = refl
test-picks (Some false) n = refl

turned-picks : (a : Look) → pick_in (look_of_not a) ≡ pick_in a
turned-picks Yes = refl
turned-picks No = refl
turned-picks (Waits n) = refl

both-of : (a b : Look) (n : ℕ) → look_of_both a b ≡ Waits n → (a ≡ Waits n) ⊎ (b ≡ Waits n)
both-of Yes b n e = inr e
both-of No b n e = absurd (cc)
both-of (Waits m) Yes n e = inl e
both-of (Waits m) No n e = absurd (cc)
both-of (Waits m) (Waits k) n e = inl e

either-of : (a b : Look) (n : ℕ) → look_of_either a b ≡ Waits n → (a ≡ Waits n) ⊎ (b ≡ Waits n)
either-of No b n e = inr e
either-of Yes b n e = absurd (cc)
either-of (Waits m) Yes n e = absurd (cc)
either-of (Waits m) No n e = inl e
either-of (Waits m) (Waits k) n e = inl e

turned-of : (a : Look) (n : ℕ) → look_of_not a ≡ Waits n → a ≡ Waits n
turned-of Yes n e = absurd (cc)
turned-of No n e = absurd (cc)
turned-of (Waits m) n e = cc

test-of : (a : Option Bool) (m n : ℕ) → look_of_test a m ≡ Waits n → (a ≡ None) × (m ≡ n)
test-of None m n e = (refl, cc)
test-of (Some true) m n e = absurd (cc)
test-of (Some false) m n e = absurd (cc)

module _ (answers : ℕ → Option Bool) where
  mutual
    -- a tree that waits for a test has no answer to it
    pub waits-unanswered : (t : Tree) (n : ℕ) → look_of_tree answers t ≡ Waits n → answers n ≡ None
    waits-unanswered yes n e = absurd (cc)
    waits-unanswered no n e = absurd (cc)
    waits-unanswered (test m) n e = let both = test-of (answers m) m n e in rw (← both.1) both.0
    waits-unanswered (not t) n e = waits-unanswered t n (turned-of (look_of_tree answers t) n e)
    waits-unanswered (all ts) n e = unanswered_all ts n e
    waits-unanswered (one_of ts) n e = unanswered_some ts n e

    unanswered_all : (ts : Trees) (n : ℕ) → look_of_all answers ts ≡ Waits n → answers n ≡ None
    unanswered_all none n e = absurd (cc)
    unanswered_all (more t ts) n e = elim (both-of (look_of_tree answers t) (look_of_all answers ts) n e) [ inl h ↦ waits-unanswered t n h | inr h ↦ unanswered_all ts n h ]

    unanswered_some : (ts : Trees) (n : ℕ) → look_of_some answers ts ≡ Waits n → answers n ≡ None
    unanswered_some none n e = absurd (cc)
    unanswered_some (more t ts) n e = elim (either-of (look_of_tree answers t) (look_of_some answers ts) n e) [ inl h ↦ waits-unanswered t n h | inr h ↦ unanswered_some ts n h ]

  module _ (k : ℕ) where
    mutual
      -- and the test is one of the tree's
      pub waits-within : (t : Tree) (n : ℕ) → AreBelow k t → look_of_tree answers t ≡ Waits n → n < k
      waits-within yes n h e = absurd (cc)
      waits-within no n h e = absurd (cc)
      waits-within (test m) n h e = let both = test-of (answers m) m n e in rw (← both.1) h
      waits-within (not t) n h e = waits-within t n h (turned-of (look_of_tree answers t) n e)
      waits-within (all ts) n h e = within_all ts n h e
      waits-within (one_of ts) n h e = within_some ts n h e

      within_all : (ts : Trees) (n : ℕ) → EachBelow k ts → look_of_all answers ts ≡ Waits n → n < k
      within_all none n h e = absurd (cc)
      within_all (more t ts) n h e = elim (both-of (look_of_tree answers t) (look_of_all answers ts) n e) [ inl g ↦ waits-within t n h.0 g | inr g ↦ within_all ts n h.1 g ]

      within_some : (ts : Trees) (n : ℕ) → EachBelow k ts → look_of_some answers ts ≡ Waits n → n < k
      within_some none n h e = absurd (cc)
      within_some (more t ts) n h e = elim (either-of (look_of_tree answers t) (look_of_some answers ts) n e) [ inl g ↦ waits-within t n h.0 g | inr g ↦ within_some ts n h.1 g ]

module _ (path : Answers) (answers : ℕ → Option Bool) (same : (n : ℕ) → answers n ≡ answer_of path n) where
  mutual
    pub value-is : (t : Tree) → value_in (look_of_tree answers t) ≡ value path t
    value-is yes = refl
    value-is no = refl
    value-is (test n) = test-value (answers n) n ∙ ap answer_value (same n)
    value-is (not t) = turned-value (look_of_tree answers t) ∙ ap kleene_not (value-is t)
    value-is (all ts) = all-is ts
    value-is (one_of ts) = some-is ts

    all-is : (ts : Trees) → value_in (look_of_all answers ts) ≡ value_of_all path ts
    all-is none = refl
    all-is (more t ts) = rw (both-value (look_of_tree answers t) (look_of_all answers ts), value-is t, all-is ts) refl

    some-is : (ts : Trees) → value_in (look_of_some answers ts) ≡ value_of_some path ts
    some-is none = refl
    some-is (more t ts) = rw (either-value (look_of_tree answers t) (look_of_some answers ts), value-is t, some-is ts) refl

  mutual
    pub pick-is : (t : Tree) → pick_in (look_of_tree answers t) ≡ pick path t
    pick-is yes = refl
    pick-is no = refl
    pick-is (test n) = test-picks (answers n) n ∙ ap (λ (a : Option Bool). if is_unknown (answer_value a) then Some n else None) (same n)
    pick-is (not t) = turned-picks (look_of_tree answers t) ∙ pick-is t
    pick-is (all ts) = rw (← (all-is ts)) (picked (look_of_all answers ts) (pick_of_first path ts) (first_of_all ts))
    pick-is (one_of ts) = rw (← (some-is ts)) (picked (look_of_some answers ts) (pick_of_first path ts) (first_of_some ts))

    first_of_all : (ts : Trees) (n : ℕ) → look_of_all answers ts ≡ Waits n → pick_of_first path ts ≡ Some n
    first_of_all none n e = absurd (cc)
    first_of_all (more t ts) n e = rw (← (value-is t), ← (pick-is t)) (both-first (look_of_tree answers t) (look_of_all answers ts) (pick_of_first path ts) n (first_of_all ts) e)

    first_of_some : (ts : Trees) (n : ℕ) → look_of_some answers ts ≡ Waits n → pick_of_first path ts ≡ Some n
    first_of_some none n e = absurd (cc)
    first_of_some (more t ts) n e = rw (← (value-is t), ← (pick-is t)) (either-first (look_of_tree answers t) (look_of_some answers ts) (pick_of_first path ts) n (first_of_some ts) e)

-- ---- the clauses of what is picked

pub clause-unknown : (r : Look) → (IsSome (pick_in r) → value_in r ≡ three.Unknown) × (value_in r ≡ three.Unknown → IsSome (pick_in r))
clause-unknown Yes = (λ h. absurd (cc), λ h. absurd (cc))
clause-unknown No = (λ h. absurd (cc), λ h. absurd (cc))
clause-unknown (Waits n) = (λ h. refl, λ h. refl)

pub clause-unanswered : (a : ℕ → Option Bool) (r : Look) → ((n : ℕ) → r ≡ Waits n → a n ≡ None) → IfSome (pick_in r) (λ n. a n ≡ None)
clause-unanswered a Yes h = tt
clause-unanswered a No h = tt
clause-unanswered a (Waits n) h = h n refl

pub clause-within : (t : Tree) (r : Look) → ((k n : ℕ) → AreBelow k t → r ≡ Waits n → n < k) → IfSome (pick_in r) (λ n. (k : ℕ) → AreBelow k t → n < k)
clause-within t Yes h = tt
clause-within t No h = tt
clause-within t (Waits n) h = λ k b. h k n b refl

waits-picked : (r : Look) (n : ℕ) → pick_in r ≡ Some n → r ≡ Waits n
waits-picked Yes n e = absurd (cc)
waits-picked No n e = absurd (cc)
waits-picked (Waits m) n e = cc

-- ---- by paths

pick-looked : (path : Answers) (t : Tree) (n : ℕ) → pick path t ≡ Some n → look_of_tree (answer_of path) t ≡ Waits n
pick-looked path t n e = waits-picked (look_of_tree (answer_of path) t) n (pick-is path (answer_of path) (λ m. refl) t ∙ e)

pub pick-unknown : (path : Answers) (t : Tree) (n : ℕ) → pick path t ≡ Some n → value path t ≡ three.Unknown
pick-unknown path t n e = sym (value-is path (answer_of path) (λ m. refl) t) ∙ ap value_in (pick-looked path t n e)

pub pick-unanswered : (path : Answers) (t : Tree) (n : ℕ) → pick path t ≡ Some n → answer_of path n ≡ None
pick-unanswered path t n e = waits-unanswered (answer_of path) t n (pick-looked path t n e)

pub pick-within : (k : ℕ) (path : Answers) (t : Tree) (n : ℕ) → AreBelow k t → pick path t ≡ Some n → n < k
pick-within k path t n h e = waits-within (answer_of path) k t n h (pick-looked path t n e)

waits-some : (r : Look) → value_in r ≡ three.Unknown → (n : ℕ) × (pick_in r ≡ Some n)
waits-some Yes e = absurd (cc)
waits-some No e = absurd (cc)
waits-some (Waits n) e = (n, refl)

pub unknown-picks : (path : Answers) (t : Tree) → value path t ≡ three.Unknown → (n : ℕ) × (pick path t ≡ Some n)
unknown-picks path t e =
    let (n, is) = waits-some (look_of_tree (answer_of path) t) (value-is path (answer_of path) (λ m. refl) t ∙ e) in
    (n, sym (pick-is path (answer_of path) (λ m. refl) t) ∙ is)
