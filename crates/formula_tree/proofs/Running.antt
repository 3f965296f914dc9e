-- Runs: there is one from each path, it splits less often than the open tests allow, and it ends where the tree can be met.
use Rattle.std.proofs.Common.{◌≡◌, ◌≢◌, ℕ, zero, suc, ◌+◌, ◌^◌, ◌<◌, ◌≤◌, [], ◌∷◌, Bool, true, false, Option, Some, None, ◌⊎◌, inl, inr, refl, sym, subst, ◌∙◌, arith}
use Rattle.std.proofs.lemmas.Nat.{pow_pos}
use Rattle.std.proofs.Math.Nat.{pow-succ'}
use Rattle.formula_tree.specs.Answers.{Answers, answer_of, Contained}
use Rattle.formula_tree.specs.Runs.{path_with, Run, no_by_value, no_by_path, yes_by_value, yes_side, no_side, NeedsMore, unanswered_count, CanBeMet, IsHarderAlong, CanGoOn}
use Rattle.formula_tree.specs.Trees.{Tree}
use Rattle.formula_tree.specs.Values.{AreBelow, value, pick}
use Rattle.formula_tree.specs.declared.value.Three.{Three}
use Rattle.formula_tree.specs.declared.value.Three.TheVariants.{Yes, No, Unknown}
use Rattle.formula_tree.proofs.AnswerLists.{answer_of-more, answer_of-besides, answer_of-last, cases_eq}
use Rattle.formula_tree.proofs.Keeping.{keeps-yes, keeps-no}
use Rattle.formula_tree.proofs.Looking.{pick-unanswered, pick-unknown, pick-within, unknown-picks}

-- ---- the open tests of a path

unanswered-same : (path : Answers) (n : ℕ) (b : Bool) (t : ℕ) → t ≤ n → unanswered_count (path_with path n b) t ≡ unanswered_count path t
unanswered-same path n b zero h = refl
unanswered-same path n b (suc t) h =
    let ne : t ≢ n = omega arith in
    rw (answer_of-besides path n b t ne, unanswered-same path n b t (omega arith)) refl

pub unanswered-more : (path : Answers) (n : ℕ) (b : Bool) (t : ℕ) → n < t → answer_of path n ≡ None → unanswered_count path t ≡ suc (unanswered_count (path_with path n b) t)
unanswered-more path n b zero h new = absurd (omega arith)
unanswered-more path n b (suc t) h new =
    elim (cases_eq t n) [
      | inl e ↦
          let old : answer_of path t ≡ None = rw e new in
          let now : answer_of (path_with path n b) t ≡ Some b = rw e (answer_of-last path n b new) in
          rw (old, now, unanswered-same path n b t (omega arith)) (omega arith)
      | inr ne ↦
          let less = unanswered-more path n b t (omega arith) new in
          rw (answer_of-besides path n b t ne) (omega arith)
    ]

pub unanswered-start : (t : ℕ) → unanswered_count [] t ≡ t
unanswered-start zero = refl
unanswered-start (suc t) = omega (arith, unanswered-start t)

-- ---- paths that contain one another

pub contained-answered : (path : Answers) (n : ℕ) (b : Bool) → Contained path (path_with path n b)
contained-answered path n b m c h = answer_of-more path ((n, b) ∷ []) m c h

pub contained-by : (few many : Answers) (n : ℕ) (b : Bool) → Contained few many → answer_of few n ≡ None → answer_of many n ≡ Some b → Contained (path_with few n b) many
contained-by few many n b c new old m d h =
    elim (cases_eq m n) [
      | inl e ↦ let last : answer_of (path_with few n b) m ≡ Some b = rw e (answer_of-last few n b new) in rw e (old ∙ sym last ∙ h)
      | inr ne ↦ c m d (sym (answer_of-besides few n b m ne) ∙ h)
    ]

pub contained-both : (few many : Answers) (n : ℕ) (b : Bool) → Contained few many → answer_of few n ≡ None → answer_of many n ≡ None → Contained (path_with few n b) (path_with many n b)
contained-both few many n b c new new2 m d h =
    elim (cases_eq m n) [
      | inl e ↦
          let first : answer_of (path_with few n b) m ≡ Some b = rw e (answer_of-last few n b new) in
          let second : answer_of (path_with many n b) m ≡ Some b = rw e (answer_of-last many n b new2) in
          second ∙ sym first ∙ h
      | inr ne ↦ answer_of-besides many n b m ne ∙ c m d (sym (answer_of-besides few n b m ne) ∙ h)
    ]

-- ---- runs

power : (k : ℕ) → 0 < 2 ^ k
power k = pow_pos k

twice : (u k m n : ℕ) → k < 2 ^ u → m < 2 ^ u → n ≡ k + m + 1 → n < 2 ^ suc u
twice u k m n h g e = omega (arith, pow-succ' 2 u)

cases_answer : (o : Option Bool) → (o ≡ Some true) ⊎ ((o ≡ Some false) ⊎ (o ≡ None))
cases_answer None = inr (inr refl)
cases_answer (Some true) = inl refl
cases_answer (Some false) = inr (inl refl)

not_false : (b : Bool) → (b ≡ false → ⊥) → b ≡ true
not_false true h = refl
not_false false h = absurd (h refl)

not_true : (b : Bool) → (b ≡ true → ⊥) → b ≡ false
not_true true h = absurd (h refl)
not_true false h = refl

module _ (possible : Answers → Type 0) (tree : Tree) where
  abbrev R : Answers → Bool → ℕ → Type 0
  R = Run possible tree

  pub same_run : (p : Answers) (b c : Bool) (n m : ℕ) → R p b n → R p c m → (b ≡ c) × (n ≡ m)
  same_run p b c n m (no_by_value p1 v1) (no_by_value p2 v2) = (refl, refl)
  same_run p b c n m (no_by_value p1 v1) (no_by_path p2 x2) = (refl, refl)
  same_run p b c n m (no_by_value p1 v1) (yes_by_value p2 v2 h2) = absurd (cc)
  same_run p b c n m (no_by_value p1 v1) (yes_side p2 t2 k2 a2 h2 e2 y2 c2) = let u2 = pick-unknown p tree t2 e2 in absurd (cc)
  same_run p b c n m (no_by_value p1 v1) (no_side p2 t2 end2 k2 m2 a2 h2 e2 y2 z2 c2) = let u2 = pick-unknown p tree t2 e2 in absurd (cc)
  same_run p b c n m (no_by_path p1 x1) (no_by_value p2 v2) = (refl, refl)
  same_run p b c n m (no_by_path p1 x1) (no_by_path p2 x2) = (refl, refl)
  same_run p b c n m (no_by_path p1 x1) (yes_by_value p2 v2 h2) = absurd (x1 h2)
  same_run p b c n m (no_by_path p1 x1) (yes_side p2 t2 k2 a2 h2 e2 y2 c2) = absurd (x1 h2)
  same_run p b c n m (no_by_path p1 x1) (no_side p2 t2 end2 k2 m2 a2 h2 e2 y2 z2 c2) = absurd (x1 h2)
  same_run p b c n m (yes_by_value p1 v1 h1) (no_by_value p2 v2) = absurd (cc)
  same_run p b c n m (yes_by_value p1 v1 h1) (no_by_path p2 x2) = absurd (x2 h1)
  same_run p b c n m (yes_by_value p1 v1 h1) (yes_by_value p2 v2 h2) = (refl, refl)
  same_run p b c n m (yes_by_value p1 v1 h1) (yes_side p2 t2 k2 a2 h2 e2 y2 c2) = let u2 = pick-unknown p tree t2 e2 in absurd (cc)
  same_run p b c n m (yes_by_value p1 v1 h1) (no_side p2 t2 end2 k2 m2 a2 h2 e2 y2 z2 c2) = let u2 = pick-unknown p tree t2 e2 in absurd (cc)
  same_run p b c n m (yes_side p1 t1 k1 a1 h1 e1 y1 c1) (no_by_value p2 v2) = let u1 = pick-unknown p tree t1 e1 in absurd (cc)
  same_run p b c n m (yes_side p1 t1 k1 a1 h1 e1 y1 c1) (no_by_path p2 x2) = absurd (x2 h1)
  same_run p b c n m (yes_side p1 t1 k1 a1 h1 e1 y1 c1) (yes_by_value p2 v2 h2) = let u1 = pick-unknown p tree t1 e1 in absurd (cc)
  same_run p b c n m (yes_side p1 t1 k1 a1 h1 e1 y1 c1) (yes_side p2 t2 k2 a2 h2 e2 y2 c2) =
      let same_test : t1 ≡ t2 = cc in
      let y : R (path_with p t2 true) true k1 = subst (λ (x : ℕ). R (path_with p x true) true k1) same_test y1 in
      let first = same_run (path_with p t2 true) true true k1 k2 y y2 in
      let count = first.1 in
      (refl, omega arith)
  same_run p b c n m (yes_side p1 t1 k1 a1 h1 e1 y1 c1) (no_side p2 t2 end2 k2 m2 a2 h2 e2 y2 z2 c2) =
      let same_test : t1 ≡ t2 = cc in
      let y : R (path_with p t2 true) true k1 = subst (λ (x : ℕ). R (path_with p x true) true k1) same_test y1 in
      let first = same_run (path_with p t2 true) true false k1 k2 y y2 in
      let bad = first.0 in
      absurd (cc)
  same_run p b c n m (no_side p1 t1 end1 k1 m1 a1 h1 e1 y1 z1 c1) (no_by_value p2 v2) = let u1 = pick-unknown p tree t1 e1 in absurd (cc)
  same_run p b c n m (no_side p1 t1 end1 k1 m1 a1 h1 e1 y1 z1 c1) (no_by_path p2 x2) = absurd (x2 h1)
  same_run p b c n m (no_side p1 t1 end1 k1 m1 a1 h1 e1 y1 z1 c1) (yes_by_value p2 v2 h2) = let u1 = pick-unknown p tree t1 e1 in absurd (cc)
  same_run p b c n m (no_side p1 t1 end1 k1 m1 a1 h1 e1 y1 z1 c1) (yes_side p2 t2 k2 a2 h2 e2 y2 c2) =
      let same_test : t1 ≡ t2 = cc in
      let y : R (path_with p t2 true) false k1 = subst (λ (x : ℕ). R (path_with p x true) false k1) same_test y1 in
      let first = same_run (path_with p t2 true) false true k1 k2 y y2 in
      let bad = first.0 in
      absurd (cc)
  same_run p b c n m (no_side p1 t1 end1 k1 m1 a1 h1 e1 y1 z1 c1) (no_side p2 t2 end2 k2 m2 a2 h2 e2 y2 z2 c2) =
      let same_test : t1 ≡ t2 = cc in
      let y : R (path_with p t2 true) false k1 = subst (λ (x : ℕ). R (path_with p x true) false k1) same_test y1 in
      let first = same_run (path_with p t2 true) false false k1 k2 y y2 in
      let z : R (path_with p t2 false) b m1 = subst (λ (x : ℕ). R (path_with p x false) b m1) same_test z1 in
      let second = same_run (path_with p t2 false) b c m1 m2 z z2 in
      let count = first.1 in
      let more = second.1 in
      (second.0, omega arith)

  pub bounded : (t : ℕ) → AreBelow t tree → (p : Answers) (b : Bool) (n : ℕ) → R p b n → n < 2 ^ unanswered_count p t
  bounded t h p b n (no_by_value p1 v1) = power (unanswered_count p t)
  bounded t h p b n (no_by_path p1 x1) = power (unanswered_count p t)
  bounded t h p b n (yes_by_value p1 v1 h1) = power (unanswered_count p t)
  bounded t h p b n (yes_side p1 t1 k1 a1 h1 e1 y1 c1) =
      let less = unanswered-more p t1 true t (pick-within t p tree t1 h e1) (pick-unanswered p tree t1 e1) in
      let first = bounded t h (path_with p t1 true) true k1 y1 in
      rw less (twice (unanswered_count (path_with p t1 true) t) k1 0 n first (power (unanswered_count (path_with p t1 true) t)) (omega arith))
  bounded t h p b n (no_side p1 t1 end1 k1 m1 a1 h1 e1 y1 z1 c1) =
      let less = unanswered-more p t1 true t (pick-within t p tree t1 h e1) (pick-unanswered p tree t1 e1) in
      let also = unanswered-more p t1 false t (pick-within t p tree t1 h e1) (pick-unanswered p tree t1 e1) in
      let same : unanswered_count (path_with p t1 false) t ≡ unanswered_count (path_with p t1 true) t = omega arith in
      let first = bounded t h (path_with p t1 true) false k1 y1 in
      let second : m1 < 2 ^ unanswered_count (path_with p t1 true) t = rw same at (bounded t h (path_with p t1 false) b m1 z1) in
      rw less (twice (unanswered_count (path_with p t1 true) t) k1 m1 n first second c1)

  widened : (p : Answers) (t : ℕ) (a : Bool) → CanBeMet possible tree (path_with p t a) → CanBeMet possible tree p
  widened p t a (longer, c, v, h) = (longer, λ m d k. c m d (contained-answered p t a m d k), v, h)

  pub found : (p : Answers) (b : Bool) (n : ℕ) → R p b n → b ≡ true → CanBeMet possible tree p
  found p b n (no_by_value p1 v1) e = absurd (cc)
  found p b n (no_by_path p1 x1) e = absurd (cc)
  found p b n (yes_by_value p1 v1 h1) e = (p, λ m c h. h, v1, h1)
  found p b n (yes_side p1 t1 k1 a1 h1 e1 y1 c1) e = widened p t1 true (found (path_with p t1 true) true k1 y1 refl)
  found p b n (no_side p1 t1 end1 k1 m1 a1 h1 e1 y1 z1 c1) e = widened p t1 false (found (path_with p t1 false) b m1 z1 e)

  pub lost : IsHarderAlong possible → CanGoOn possible → (p : Answers) (b : Bool) (n : ℕ) → R p b n → b ≡ false → CanBeMet possible tree p → ⊥
  lost harder goes p b n (no_by_value p1 v1) e (longer, c, v, h) = let no = keeps-no p longer tree c v1 in absurd (cc)
  lost harder goes p b n (no_by_path p1 x1) e (longer, c, v, h) = x1 (harder p longer c h)
  lost harder goes p b n (yes_by_value p1 v1 h1) e met = absurd (cc)
  lost harder goes p b n (yes_side p1 t1 k1 a1 h1 e1 y1 c1) e met = absurd (cc)
  lost harder goes p b n (no_side p1 t1 end1 k1 m1 a1 h1 e1 y1 z1 c1) e (longer, c, v, h) =
      let new = pick-unanswered p tree t1 e1 in
      elim (cases_answer (answer_of longer t1)) [
        | inl is_yes ↦ lost harder goes (path_with p t1 true) false k1 y1 refl (longer, contained-by p longer t1 true c new is_yes, v, h)
        | inr (inl is_no) ↦ lost harder goes (path_with p t1 false) b m1 z1 e (longer, contained-by p longer t1 false c new is_no, v, h)
        | inr (inr is_open) ↦
            elim (goes longer t1 h is_open) [
              | inl g ↦ lost harder goes (path_with p t1 true) false k1 y1 refl
                  (path_with longer t1 true, contained-both p longer t1 true c new is_open, keeps-yes longer (path_with longer t1 true) tree (contained-answered longer t1 true) v, g)
              | inr g ↦ lost harder goes (path_with p t1 false) b m1 z1 e
                  (path_with longer t1 false, contained-both p longer t1 false c new is_open, keeps-yes longer (path_with longer t1 false) tree (contained-answered longer t1 false) v, g)
            ]
      ]

  pub missed : IsHarderAlong possible → CanGoOn possible → (p : Answers) (b : Bool) (n : ℕ) → CanBeMet possible tree p → R p b n → b ≡ true
  missed harder goes p b n met run = not_false b (λ e. lost harder goes p b n run e met)

  pub stays_unmet : IsHarderAlong possible → CanGoOn possible → (few many : Answers) (b : Bool) (n m : ℕ) → Contained few many → R few false n → R many b m → b ≡ false
  stays_unmet harder goes few many b n m c unmet run =
      not_true b (λ e. let (longer, more, v, h) = found many b m run e in lost harder goes few false n unmet refl (longer, λ k d a. more k d (c k d a), v, h))

-- ---- there is a run from each path

cases_value : (v : Three) → (v ≡ Yes) ⊎ ((v ≡ No) ⊎ (v ≡ Unknown))
cases_value Yes = inl refl
cases_value No = inr (inl refl)
cases_value Unknown = inr (inr refl)

module _ (possible : Answers → Type 0) (tree : Tree) (p : Answers) (n : ℕ) (ok : possible p) (is : pick p tree ≡ Some n) where
  after : ((k : ℕ) → Run possible tree (path_with p n true) false k → ⊥) → ((b : Bool) (m : ℕ) → Run possible tree p b m → ⊥) → (b : Bool) (k : ℕ) → Run possible tree (path_with p n true) b k → ⊥
  after unmet none true k y = none true (k + 1) (yes_side p n k (k + 1) ok is y refl)
  after unmet none false k y = unmet k y

module _ (possible : Answers → Type 0) (tree : Tree) (t : ℕ) (h : AreBelow t tree) where
  pub some-run : (u : ℕ) (p : Answers) → unanswered_count p t ≡ u → ((b : Bool) (n : ℕ) → Run possible tree p b n → ⊥) → ⊥
  some-run zero p e none =
      elim (cases_value (value p tree)) [
        | inl v ↦ none false 0 (no_by_path p (λ ok. none true 0 (yes_by_value p v ok)))
        | inr (inl v) ↦ none false 0 (no_by_value p v)
        | inr (inr v) ↦
            let (n, is) = unknown-picks p tree v in
            let less = unanswered-more p n true t (pick-within t p tree n h is) (pick-unanswered p tree n is) in
            absurd (omega arith)
      ]
  some-run (suc u) p e none =
      elim (cases_value (value p tree)) [
        | inl v ↦ none false 0 (no_by_path p (λ ok. none true 0 (yes_by_value p v ok)))
        | inr (inl v) ↦ none false 0 (no_by_value p v)
        | inr (inr v) ↦
            let (n, is) = unknown-picks p tree v in
            let less = unanswered-more p n true t (pick-within t p tree n h is) (pick-unanswered p tree n is) in
            let also = unanswered-more p n false t (pick-within t p tree n h is) (pick-unanswered p tree n is) in
            let yes_left : unanswered_count (path_with p n true) t ≡ u = omega arith in
            let no_left : unanswered_count (path_with p n false) t ≡ u = omega arith in
            none false 0 (no_by_path p (λ ok.
            some-run u (path_with p n true) yes_left (after possible tree p n ok is
            (λ k y. some-run u (path_with p n false) no_left (λ c m z. none c (k + m + 1) (no_side p n c k m (k + m + 1) ok is y z refl)))
            none)))
      ]

  pub start_fits : (b : Bool) (n : ℕ) → Run possible tree [] b n → n < 2 ^ t
  start_fits b n run = rw (unanswered-start t) at (bounded possible tree t h [] b n run)

  -- a run that needs more has more splits than the tests allow, so there is none
  pub few_fit : (splits : ℕ) → 2 ^ t ≤ splits + 1 → NeedsMore possible tree [] splits → ⊥
  few_fit splits few more =
      some-run t [] (unanswered-start t) (λ b n run. let long : splits < n = more b n run in let short : n < 2 ^ t = start_fits b n run in omega arith)
