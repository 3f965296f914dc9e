-- Equal tests.
use Rattle.std.proofs.Common.{◌≡◌, ◌==◌, ◌&&◌, ◌∙◌, ℕ, List, Bool, true, false, true≢false, ap, refl, sym, arith}
use mathlib.Core.Bool.{beq}
use Rattle.std.specs.Bool.{Decides}
use Rattle.std.proofs.lemmas.Grind.{common_steps}
use Rattle.std.specs.Cmp.Lexicographic.{pointwise, pointwise_decides}
use Rattle.std.proofs.lemmas.Bool.Decides.{Decides-eqb}
use Rattle.cidr_bits.proofs.Laws.{blocks-Decides}
use Rattle.intervals.proofs.Laws.{bytes-Decides, compares-Decides, scaled-Decides}
use Rattle.policy_model.specs.declared.cond.Cond.{Cond}
use Rattle.policy_model.specs.declared.cond.Cond.TheVariants as cond
use Rattle.policy_model.specs.contracts.cond.CondPartialEq.TheImpl as conds
use Rattle.policy_model.specs.declared.principal.Entry.{Entry}
use Rattle.policy_model.specs.contracts.principal.EntryPartialEq.TheImpl as entry
use Rattle.policy_model.specs.declared.test.Test.{Test}
use Rattle.policy_model.specs.declared.test.Test.TheVariants.{Principal, Action, Resource, Present, SomeMeets, SomeMeetsNone}
use Rattle.policy_model.specs.contracts.test.TestPartialEq.TheImpl as test
use Rattle.wildcard_lang.proofs.Laws.{pieces-Decides}

-- two values that a test tells apart aren't equal
unlike : {X : Type 0} {x y : X} (is : X → Bool) → is x ≡ true → is y ≡ false → Decides false (x ≡ y)
unlike is holds fails = (λ e. absurd (true≢false (sym e)), λ e. absurd (true≢false (sym holds ∙ ap is e ∙ fails)))

abbrev is_matches : Cond → Bool
is_matches (cond.Matches p) = true
is_matches c = false

abbrev is_compares : Cond → Bool
is_compares (cond.Compares how n) = true
is_compares c = false

abbrev is_inside : Cond → Bool
is_inside (cond.Inside b) = true
is_inside c = false

abbrev is_flag : Cond → Bool
is_flag (cond.Flag u v) = true
is_flag c = false

abbrev is_equals : Cond → Bool
is_equals (cond.Equals xs) = true
is_equals c = false

abbrev is_principal : Test → Bool
is_principal (Principal x) = true
is_principal t = false

abbrev is_action : Test → Bool
is_action (Action x) = true
is_action t = false

abbrev is_resource : Test → Bool
is_resource (Resource x) = true
is_resource t = false

abbrev is_present : Test → Bool
is_present (Present x) = true
is_present t = false

abbrev is_some : Test → Bool
is_some (SomeMeets x c) = true
is_some t = false

abbrev is_none : Test → Bool
is_none (SomeMeetsNone x cs) = true
is_none t = false

same-text : (x y : List ℕ) → pointwise ◌==◌ x y ≡ true → x ≡ y
same-text x y = (pointwise_decides Decides-eqb x y).0

text-same : (x y : List ℕ) → x ≡ y → pointwise ◌==◌ x y ≡ true
text-same x y = (pointwise_decides Decides-eqb x y).1

entries-Decides : (a b : Entry) → Decides (entry.eq-value.it a b) (a ≡ b)
entries-Decides a b = grind (arith, common_steps, same-text, text-same)

keys-Decide : (x y : List ℕ) → Decides (pointwise ◌==◌ x y) (x ≡ y)
keys-Decide x y = pointwise_decides Decides-eqb x y

flags-Decide : (a b : Bool) → Decides (beq a b) (a ≡ b)
flags-Decide true true = (λ e. refl, λ e. refl)
flags-Decide true false = (λ e. absurd (cc), λ e. absurd (cc))
flags-Decide false true = (λ e. absurd (cc), λ e. absurd (cc))
flags-Decide false false = (λ e. refl, λ e. refl)

-- of two parts each is equal
both-decide : {a b : Bool} {P Q R : Type 0} → Decides a P → Decides b Q → (R → P × Q) → (P → Q → R) → Decides (a && b) R
both-decide {a = true} {b} h k apart together = (λ e. together (h.0 refl) (k.0 e), λ r. k.1 (apart r).1)
both-decide {a = false} {b} h k apart together = (λ e. absurd (cc), λ r. let same = h.1 (apart r).0 in absurd (cc))

pub conds-Decides : (a b : Cond) → Decides (conds.eq-value.it a b) (a ≡ b)
conds-Decides (cond.Matches p) (cond.Matches q) = let same = pointwise_decides pieces-Decides p q in (λ e. ap cond.Matches (same.0 e), λ e. same.1 (cc))
conds-Decides (cond.Matches p) (cond.Compares way n) = unlike is_matches refl refl
conds-Decides (cond.Matches p) (cond.Inside b) = unlike is_matches refl refl
conds-Decides (cond.Matches p) (cond.Flag u v) = unlike is_matches refl refl
conds-Decides (cond.Matches p) (cond.Equals ys) = unlike is_matches refl refl
conds-Decides (cond.Compares how m) (cond.Matches q) = unlike is_compares refl refl
conds-Decides (cond.Compares how m) (cond.Compares way n) = both-decide (compares-Decides how way) (scaled-Decides m n) (λ e. (cc, cc)) (λ e f. cc)
conds-Decides (cond.Compares how m) (cond.Inside b) = unlike is_compares refl refl
conds-Decides (cond.Compares how m) (cond.Flag u v) = unlike is_compares refl refl
conds-Decides (cond.Compares how m) (cond.Equals ys) = unlike is_compares refl refl
conds-Decides (cond.Inside a) (cond.Matches q) = unlike is_inside refl refl
conds-Decides (cond.Inside a) (cond.Compares way n) = unlike is_inside refl refl
conds-Decides (cond.Inside a) (cond.Inside b) = let same = blocks-Decides a b in (λ e. ap cond.Inside (same.0 e), λ e. same.1 (cc))
conds-Decides (cond.Inside a) (cond.Flag u v) = unlike is_inside refl refl
conds-Decides (cond.Inside a) (cond.Equals ys) = unlike is_inside refl refl
conds-Decides (cond.Flag s t) (cond.Matches q) = unlike is_flag refl refl
conds-Decides (cond.Flag s t) (cond.Compares way n) = unlike is_flag refl refl
conds-Decides (cond.Flag s t) (cond.Inside b) = unlike is_flag refl refl
conds-Decides (cond.Flag s t) (cond.Flag u v) = both-decide (flags-Decide s u) (flags-Decide t v) (λ e. (cc, cc)) (λ e f. cc)
conds-Decides (cond.Flag s t) (cond.Equals ys) = unlike is_flag refl refl
conds-Decides (cond.Equals xs) (cond.Matches q) = unlike is_equals refl refl
conds-Decides (cond.Equals xs) (cond.Compares way n) = unlike is_equals refl refl
conds-Decides (cond.Equals xs) (cond.Inside b) = unlike is_equals refl refl
conds-Decides (cond.Equals xs) (cond.Flag u v) = unlike is_equals refl refl
conds-Decides (cond.Equals xs) (cond.Equals ys) = let same = bytes-Decides xs ys in (λ e. ap cond.Equals (same.0 e), λ e. same.1 (cc))

pub tests-Decides : (a b : Test) → Decides (test.eq-value.it a b) (a ≡ b)
tests-Decides (Principal x) (Principal y) = let same = entries-Decides x y in (λ e. ap Principal (same.0 e), λ e. same.1 (cc))
tests-Decides (Principal x) (Action y) = unlike is_principal refl refl
tests-Decides (Principal x) (Resource y) = unlike is_principal refl refl
tests-Decides (Principal x) (Present y) = unlike is_principal refl refl
tests-Decides (Principal x) (SomeMeets y d) = unlike is_principal refl refl
tests-Decides (Principal x) (SomeMeetsNone y ds) = unlike is_principal refl refl
tests-Decides (Action x) (Principal y) = unlike is_action refl refl
tests-Decides (Action x) (Action y) = let same = pointwise_decides pieces-Decides x y in (λ e. ap Action (same.0 e), λ e. same.1 (cc))
tests-Decides (Action x) (Resource y) = unlike is_action refl refl
tests-Decides (Action x) (Present y) = unlike is_action refl refl
tests-Decides (Action x) (SomeMeets y d) = unlike is_action refl refl
tests-Decides (Action x) (SomeMeetsNone y ds) = unlike is_action refl refl
tests-Decides (Resource x) (Principal y) = unlike is_resource refl refl
tests-Decides (Resource x) (Action y) = unlike is_resource refl refl
tests-Decides (Resource x) (Resource y) = let same = pointwise_decides pieces-Decides x y in (λ e. ap Resource (same.0 e), λ e. same.1 (cc))
tests-Decides (Resource x) (Present y) = unlike is_resource refl refl
tests-Decides (Resource x) (SomeMeets y d) = unlike is_resource refl refl
tests-Decides (Resource x) (SomeMeetsNone y ds) = unlike is_resource refl refl
tests-Decides (Present x) (Principal y) = unlike is_present refl refl
tests-Decides (Present x) (Action y) = unlike is_present refl refl
tests-Decides (Present x) (Resource y) = unlike is_present refl refl
tests-Decides (Present x) (Present y) = let same = keys-Decide x y in (λ e. ap Present (same.0 e), λ e. same.1 (cc))
tests-Decides (Present x) (SomeMeets y d) = unlike is_present refl refl
tests-Decides (Present x) (SomeMeetsNone y ds) = unlike is_present refl refl
tests-Decides (SomeMeets x c) (Principal y) = unlike is_some refl refl
tests-Decides (SomeMeets x c) (Action y) = unlike is_some refl refl
tests-Decides (SomeMeets x c) (Resource y) = unlike is_some refl refl
tests-Decides (SomeMeets x c) (Present y) = unlike is_some refl refl
tests-Decides (SomeMeets x c) (SomeMeets y d) = both-decide (keys-Decide x y) (conds-Decides c d) (λ e. (cc, cc)) (λ e f. cc)
tests-Decides (SomeMeets x c) (SomeMeetsNone y ds) = unlike is_some refl refl
tests-Decides (SomeMeetsNone x cs) (Principal y) = unlike is_none refl refl
tests-Decides (SomeMeetsNone x cs) (Action y) = unlike is_none refl refl
tests-Decides (SomeMeetsNone x cs) (Resource y) = unlike is_none refl refl
tests-Decides (SomeMeetsNone x cs) (Present y) = unlike is_none refl refl
tests-Decides (SomeMeetsNone x cs) (SomeMeets y d) = unlike is_none refl refl
tests-Decides (SomeMeetsNone x cs) (SomeMeetsNone y ds) = both-decide (keys-Decide x y) (pointwise_decides conds-Decides cs ds) (λ e. (cc, cc)) (λ e f. cc)
