-- The picked test of a tree is one of its own, and there is one where the tree is unknown.
use Rattle.std.proofs.Common.{◌≡◌, ◌<◌, ℕ, Bool, true, false, Option, Some, None, ◌⊎◌, if◌then◌else◌, inl, inr, refl, subst}
use Rattle.formula_tree.specs.Answers.{Answers}
use Rattle.formula_tree.specs.Trees.{Tree, Trees, yes, no, test, not, all, one_of, none, more}
use Rattle.formula_tree.specs.Values.{AreBelow, EachBelow, kleene_and, kleene_or, is_unknown, pick, pick_of_first, kleene_not, value, value_of_all, value_of_some}
use Rattle.formula_tree.specs.declared.value.Three.{Three}
use Rattle.formula_tree.specs.declared.value.Three.TheVariants.{No, Unknown, Yes}

if-some : (b : Bool) (o : Option ℕ) (n : ℕ) → (if b then o else None) ≡ Some n → o ≡ Some n
if-some true o n e = e
if-some false o n e = absurd (cc)

if-either : (b : Bool) (o p : Option ℕ) (n : ℕ) → (if b then o else p) ≡ Some n → (o ≡ Some n) ⊎ (p ≡ Some n)
if-either true o p n e = inl e
if-either false o p n e = inr e

same-number : (m n : ℕ) → Some m ≡ Some n → m ≡ n
same-number m n e = cc

mutual
  pub pick-within : (k : ℕ) (path : Answers) (t : Tree) (n : ℕ) → AreBelow k t → pick path t ≡ Some n → n < k
  pick-within k path yes n below e = absurd (cc)
  pick-within k path no n below e = absurd (cc)
  pick-within k path (test m) n below e = subst (λ (x : ℕ). x < k) (same-number m n (if-some (is_unknown (value path (test m))) (Some m) n e)) below
  pick-within k path (not t) n below e = pick-within k path t n below e
  pick-within k path (all ts) n below e = first-within k path ts n below (if-some (is_unknown (value_of_all path ts)) (pick_of_first path ts) n e)
  pick-within k path (one_of ts) n below e = first-within k path ts n below (if-some (is_unknown (value_of_some path ts)) (pick_of_first path ts) n e)

  first-within : (k : ℕ) (path : Answers) (ts : Trees) (n : ℕ) → EachBelow k ts → pick_of_first path ts ≡ Some n → n < k
  first-within k path none n below e = absurd (cc)
  first-within k path (more t ts) n below e =
      elim (if-either (is_unknown (value path t)) (pick path t) (pick_of_first path ts) n e) [
        | inl first ↦ pick-within k path t n below.0 first
        | inr rest ↦ first-within k path ts n below.1 rest
      ]

-- ---- an unknown tree

unswapped : (v : Three) → kleene_not v ≡ Unknown → v ≡ Unknown
unswapped Yes e = absurd (cc)
unswapped No e = absurd (cc)
unswapped Unknown e = refl

-- of two values, the first that is unknown, behind one that leaves it so
abbrev FirstUnknown : Three → Three → Type 0
FirstUnknown a b = (a ≡ Unknown) ⊎ ((is_unknown a ≡ false) × (b ≡ Unknown))

both-unknown : (a b : Three) → kleene_and a b ≡ Unknown → FirstUnknown a b
both-unknown No b e = absurd (cc)
both-unknown Yes b e = inr (refl, e)
both-unknown Unknown b e = inl refl

either-unknown : (a b : Three) → kleene_or a b ≡ Unknown → FirstUnknown a b
either-unknown Yes b e = absurd (cc)
either-unknown No b e = inr (refl, e)
either-unknown Unknown b e = inl refl

-- some test is picked
abbrev IsPicked : Option ℕ → Type 0
IsPicked o = (n : ℕ) × (o ≡ Some n)

picked-here : (v : Three) (o p : Option ℕ) → v ≡ Unknown → IsPicked o → IsPicked (if is_unknown v then o else p)
picked-here Yes o p e is = absurd (cc)
picked-here No o p e is = absurd (cc)
picked-here Unknown o p e is = is

picked-later : (b : Bool) (o p : Option ℕ) → b ≡ false → IsPicked p → IsPicked (if b then o else p)
picked-later true o p e is = absurd (cc)
picked-later false o p e is = is

mutual
  pub some-pick : (path : Answers) (t : Tree) → value path t ≡ Unknown → IsPicked (pick path t)
  some-pick path yes e = absurd (cc)
  some-pick path no e = absurd (cc)
  some-pick path (test m) e = picked-here (value path (test m)) (Some m) None e (m, refl)
  some-pick path (not t) e = some-pick path t (unswapped (value path t) e)
  some-pick path (all ts) e = picked-here (value_of_all path ts) (pick_of_first path ts) None e (some-of_all path ts e)
  some-pick path (one_of ts) e = picked-here (value_of_some path ts) (pick_of_first path ts) None e (some-of_some path ts e)

  some-of_all : (path : Answers) (ts : Trees) → value_of_all path ts ≡ Unknown → IsPicked (pick_of_first path ts)
  some-of_all path none e = absurd (cc)
  some-of_all path (more t ts) e =
      elim (both-unknown (value path t) (value_of_all path ts) e) [
        | inl first ↦ picked-here (value path t) (pick path t) (pick_of_first path ts) first (some-pick path t first)
        | inr (known, rest) ↦ picked-later (is_unknown (value path t)) (pick path t) (pick_of_first path ts) known (some-of_all path ts rest)
      ]

  some-of_some : (path : Answers) (ts : Trees) → value_of_some path ts ≡ Unknown → IsPicked (pick_of_first path ts)
  some-of_some path none e = absurd (cc)
  some-of_some path (more t ts) e =
      elim (either-unknown (value path t) (value_of_some path ts) e) [
        | inl first ↦ picked-here (value path t) (pick path t) (pick_of_first path ts) first (some-pick path t first)
        | inr (known, rest) ↦ picked-later (is_unknown (value path t)) (pick path t) (pick_of_first path ts) known (some-of_some path ts rest)
      ]
