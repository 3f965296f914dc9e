-- What a tree waits for: an unknown one waits for a test, which is one of its own.
use Rattle.std.proofs.Common.{◌≡◌, ◌<◌, ℕ, Bool, true, false, Option, Some, None, IsSome, if◌then◌else◌, refl}
use Rattle.formula_tree.specs.declared.value.Three.{Three}
use Rattle.formula_tree.specs.declared.value.Three.TheVariants.{Yes, No, Unknown}
use Rattle.formula_tree.specs.Answers.{Answers, answer_of}
use Rattle.formula_tree.specs.Trees.{Tree, Trees, yes, no, test, not, all, one_of, none, more}
use Rattle.formula_tree.specs.Values.{AreBelow, EachBelow, answer_value, kleene_and, kleene_or, is_unknown, pick, pick_of_first, kleene_not, value, value_of_all, value_of_some}

unknown-some : (v : Three) (o : Option ℕ) → v ≡ Unknown → IsSome o → IsSome (if is_unknown v then o else None)
unknown-some Unknown o e h = h
unknown-some Yes o e h = absurd (cc)
unknown-some No o e h = absurd (cc)

some-inside : (b : Bool) (o : Option ℕ) (n : ℕ) → (if b then o else None) ≡ Some n → o ≡ Some n
some-inside true o n e = e
some-inside false o n e = absurd (cc)

swapped-unknown : (v : Three) → kleene_not v ≡ Unknown → v ≡ Unknown
swapped-unknown Yes e = absurd (cc)
swapped-unknown No e = absurd (cc)
swapped-unknown Unknown e = refl

-- the first branch that is unknown, or the first of the others
both-some : (v rest : Three) (o others : Option ℕ) → kleene_and v rest ≡ Unknown → (v ≡ Unknown → IsSome o) → (rest ≡ Unknown → IsSome others) → IsSome (if is_unknown v then o else others)
both-some Yes rest o others e first second = second e
both-some No rest o others e first second = absurd (cc)
both-some Unknown rest o others e first second = first refl

either-some : (v rest : Three) (o others : Option ℕ) → kleene_or v rest ≡ Unknown → (v ≡ Unknown → IsSome o) → (rest ≡ Unknown → IsSome others) → IsSome (if is_unknown v then o else others)
either-some No rest o others e first second = second e
either-some Yes rest o others e first second = absurd (cc)
either-some Unknown rest o others e first second = first refl

one-of-both : (b : Bool) (o others : Option ℕ) (n : ℕ) (A : Type 0) → (o ≡ Some n → A) → (others ≡ Some n → A) → (if b then o else others) ≡ Some n → A
one-of-both true o others n A first second e = first e
one-of-both false o others n A first second e = second e

mutual
  pub waits : (path : Answers) (t : Tree) → value path t ≡ Unknown → IsSome (pick path t)
  waits path yes e = absurd (cc)
  waits path no e = absurd (cc)
  waits path (test n) e = unknown-some (answer_value (answer_of path n)) (Some n) e refl
  waits path (not t) e = waits path t (swapped-unknown (value path t) e)
  waits path (all ts) e = unknown-some (value_of_all path ts) (pick_of_first path ts) e (waits-all path ts e)
  waits path (one_of ts) e = unknown-some (value_of_some path ts) (pick_of_first path ts) e (waits-some path ts e)

  waits-all : (path : Answers) (ts : Trees) → value_of_all path ts ≡ Unknown → IsSome (pick_of_first path ts)
  waits-all path none e = absurd (cc)
  waits-all path (more t ts) e = both-some (value path t) (value_of_all path ts) (pick path t) (pick_of_first path ts) e (waits path t) (waits-all path ts)

  waits-some : (path : Answers) (ts : Trees) → value_of_some path ts ≡ Unknown → IsSome (pick_of_first path ts)
  waits-some path none e = absurd (cc)
  waits-some path (more t ts) e = either-some (value path t) (value_of_some path ts) (pick path t) (pick_of_first path ts) e (waits path t) (waits-some path ts)

mutual
  pub pick-within : (k : ℕ) (path : Answers) (t : Tree) (n : ℕ) → AreBelow k t → pick path t ≡ Some n → n < k
  pick-within k path yes n h e = absurd (cc)
  pick-within k path no n h e = absurd (cc)
  pick-within k path (test m) n h e =
      let same : Some m ≡ Some n = some-inside (is_unknown (answer_value (answer_of path m))) (Some m) n e in
      let is : m ≡ n = cc in
      rw (← is) h
  pick-within k path (not t) n h e = pick-within k path t n h e
  pick-within k path (all ts) n h e = first-within k path ts n h (some-inside (is_unknown (value_of_all path ts)) (pick_of_first path ts) n e)
  pick-within k path (one_of ts) n h e = first-within k path ts n h (some-inside (is_unknown (value_of_some path ts)) (pick_of_first path ts) n e)

  first-within : (k : ℕ) (path : Answers) (ts : Trees) (n : ℕ) → EachBelow k ts → pick_of_first path ts ≡ Some n → n < k
  first-within k path none n h e = absurd (cc)
  first-within k path (more t ts) n h e = one-of-both (is_unknown (value path t)) (pick path t) (pick_of_first path ts) n (n < k) (pick-within k path t n h.0) (first-within k path ts n h.1) e

none-some : (o : Option ℕ) → o ≡ None → IsSome o → ⊥
none-some None e h = absurd (cc)
none-some (Some n) e h = absurd (cc)

yes-left : (v : Three) → (v ≡ Unknown → ⊥) → (v ≡ No → ⊥) → v ≡ Yes
yes-left Yes a b = refl
yes-left No a b = absurd (b refl)
yes-left Unknown a b = absurd (a refl)

-- a tree that waits for no test and isn't no is yes
pub waits-for-none : (path : Answers) (t : Tree) → pick path t ≡ None → (value path t ≡ No → ⊥) → value path t ≡ Yes
waits-for-none path t e not_no = yes-left (value path t) (λ u. none-some (pick path t) e (waits path t u)) not_no
