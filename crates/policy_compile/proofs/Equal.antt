-- Equal tests, and equal nodes.
use Rattle.std.proofs.Common.{◌≡◌, ◌==◌, ◌&&◌, ℕ, List, Bool, true, false, ap, refl, subst}
use mathlib.Core.Bool.{beq}
use Rattle.std.specs.Bool.{Decides}
use Rattle.std.specs.Cmp.Lexicographic.{pointwise, pointwise_decides}
use Rattle.std.proofs.lemmas.Bool.{and_from, false≢true}
use Rattle.std.proofs.lemmas.Bool.Decides.{Decides-eqb}
use Rattle.cidr_bits.proofs.Laws.{blocks-Decides}
use Rattle.intervals.proofs.Laws.{bytes-Decides, compares-Decides, scaled-Decides}
use Rattle.policy_model.specs.declared.cond.Cond.{Cond}
use Rattle.policy_model.specs.declared.cond.Cond.TheVariants as cond
use Rattle.policy_model.specs.contracts.cond.CondPartialEq.TheImpl as conds
use Rattle.policy_model.specs.declared.test.Test.{Test}
use Rattle.policy_model.specs.declared.test.Test.TheVariants.{Principal, Action, Resource, Present, SomeMeets, SomeMeetsNone}
use Rattle.policy_model.specs.contracts.test.TestPartialEq.TheImpl as test
use Rattle.policy_compile.specs.declared.nodes.Node.TheVariants as node
use Rattle.policy_compile.specs.contracts.nodes.NodePartialEq.TheImpl as nodes
use Rattle.policy_compile.proofs.Entries.{entries-Decides}
use Rattle.wildcard_lang.proofs.Laws.{pieces-Decides}

keys-Decide : (x y : List ℕ) → Decides (pointwise ◌==◌ x y) (x ≡ y)
keys-Decide x y = pointwise_decides Decides-eqb x y

flags-Decide : (a b : Bool) → Decides (beq a b) (a ≡ b)
flags-Decide true true = (λ e. refl, λ e. refl)
flags-Decide true false = (λ e. absurd (cc), λ e. absurd (cc))
flags-Decide false true = (λ e. absurd (cc), λ e. absurd (cc))
flags-Decide false false = (λ e. refl, λ e. refl)

-- a test of equality decides where it holds of equal things alone, and of each thing with itself
decides-by : {T : Type 0} (eq : T → T → Bool) → ((a b : T) → eq a b ≡ true → a ≡ b) → ((a : T) → eq a a ≡ true) → (a b : T) → Decides (eq a b) (a ≡ b)
decides-by eq same own a b = (same a b, λ e. subst (λ x. eq a x ≡ true) e (own a))

-- each of two parts is equal
both-same : {a b : Bool} {P Q R : Type 0} → Decides a P → Decides b Q → (P → Q → R) → a && b ≡ true → R
both-same {a = true} {b} h k together e = together (h.0 refl) (k.0 e)
both-same {a = false} {b} h k together e = absurd (false≢true e)

conds-same : (a b : Cond) → conds.eq-value.it a b ≡ true → a ≡ b
conds-same (cond.Matches p) (cond.Matches q) e = ap cond.Matches ((pointwise_decides pieces-Decides p q).0 e)
conds-same (cond.Compares how m) (cond.Compares way n) e = both-same (compares-Decides how way) (scaled-Decides m n) (λ f g. cc) e
conds-same (cond.Inside a) (cond.Inside b) e = ap cond.Inside ((blocks-Decides a b).0 e)
conds-same (cond.Flag s t) (cond.Flag u v) e = both-same (flags-Decide s u) (flags-Decide t v) (λ f g. cc) e
conds-same (cond.Equals xs) (cond.Equals ys) e = ap cond.Equals ((bytes-Decides xs ys).0 e)
conds-same a b e = absurd (false≢true e)

conds-own : (a : Cond) → conds.eq-value.it a a ≡ true
conds-own (cond.Matches p) = (pointwise_decides pieces-Decides p p).1 refl
conds-own (cond.Compares how m) = and_from _ _ ((compares-Decides how how).1 refl) ((scaled-Decides m m).1 refl)
conds-own (cond.Inside a) = (blocks-Decides a a).1 refl
conds-own (cond.Flag s t) = and_from _ _ ((flags-Decide s s).1 refl) ((flags-Decide t t).1 refl)
conds-own (cond.Equals xs) = (bytes-Decides xs xs).1 refl

pub conds-Decides : (a b : Cond) → Decides (conds.eq-value.it a b) (a ≡ b)
conds-Decides a b = decides-by conds.eq-value.it conds-same conds-own a b

tests-same : (a b : Test) → test.eq-value.it a b ≡ true → a ≡ b
tests-same (Principal x) (Principal y) e = ap Principal ((entries-Decides x y).0 e)
tests-same (Action x) (Action y) e = ap Action ((pointwise_decides pieces-Decides x y).0 e)
tests-same (Resource x) (Resource y) e = ap Resource ((pointwise_decides pieces-Decides x y).0 e)
tests-same (Present x) (Present y) e = ap Present ((keys-Decide x y).0 e)
tests-same (SomeMeets x c) (SomeMeets y d) e = both-same (keys-Decide x y) (conds-Decides c d) (λ f g. cc) e
tests-same (SomeMeetsNone x cs) (SomeMeetsNone y ds) e = both-same (keys-Decide x y) (pointwise_decides conds-Decides cs ds) (λ f g. cc) e
tests-same a b e = absurd (false≢true e)

tests-own : (a : Test) → test.eq-value.it a a ≡ true
tests-own (Principal x) = (entries-Decides x x).1 refl
tests-own (Action x) = (pointwise_decides pieces-Decides x x).1 refl
tests-own (Resource x) = (pointwise_decides pieces-Decides x x).1 refl
tests-own (Present x) = (keys-Decide x x).1 refl
tests-own (SomeMeets x c) = and_from _ _ ((keys-Decide x x).1 refl) ((conds-Decides c c).1 refl)
tests-own (SomeMeetsNone x cs) = and_from _ _ ((keys-Decide x x).1 refl) ((pointwise_decides conds-Decides cs cs).1 refl)

pub tests-Decides : (a b : Test) → Decides (test.eq-value.it a b) (a ≡ b)
tests-Decides a b = decides-by test.eq-value.it tests-same tests-own a b
