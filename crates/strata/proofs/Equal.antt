-- Equal predicates.
use Rattle.std.proofs.Common.{◌≡◌, ◌==◌, ◌&&◌, ℕ, List, Bool, true, false, ap, refl, sym, true≢false, arith}
use mathlib.Core.Bool.{beq}
use Rattle.std.specs.Bool.{Decides}
use Rattle.std.proofs.lemmas.Grind.{common_steps}
use Rattle.std.specs.Cmp.Lexicographic.{pointwise, pointwise_decides}
use Rattle.std.proofs.lemmas.Bool.Decides.{Decides-eqb}
use Rattle.cidr_bits.proofs.Laws.{blocks-Decides}
use Rattle.intervals.proofs.Laws.{bytes-Decides, compares-Decides, scaled-Decides}
use Rattle.wildcard_lang.proofs.Laws.{pieces-Decides}
use Rattle.policy_model.specs.declared.cond.Cond.{Cond}
use Rattle.policy_model.specs.declared.cond.Cond.TheVariants as cond
use Rattle.policy_model.specs.contracts.cond.CondPartialEq.TheImpl as conds
use Rattle.policy_model.specs.declared.principal.Entry.{Entry}
use Rattle.policy_model.specs.declared.principal.Entry.TheVariants as entries
use Rattle.policy_model.specs.declared.principal.PrincipalKind.{PrincipalKind}
use Rattle.policy_model.specs.contracts.principal.PrincipalKindPartialEq.TheImpl as kind
use Rattle.policy_model.specs.contracts.principal.EntryPartialEq.TheImpl as entry
use Rattle.strata.specs.declared.predicate.Predicate.{Predicate}
use Rattle.strata.specs.declared.predicate.Predicate.TheVariants.{Every, Principal, Word, Meets}
use Rattle.strata.specs.contracts.predicate.PredicatePartialEq.TheImpl as predicate

kinds-Decide : (a b : PrincipalKind) → Decides (kind.eq-value.it a b) (a ≡ b)
kinds-Decide a b = grind (arith, common_steps)

texts-Decide : (x y : List ℕ) → Decides (pointwise ◌==◌ x y) (x ≡ y)
texts-Decide x y = pointwise_decides Decides-eqb x y

flags-Decide : (a b : Bool) → Decides (beq a b) (a ≡ b)
flags-Decide true true = (λ e. refl, λ e. refl)
flags-Decide true false = (λ e. absurd (cc), λ e. absurd (cc))
flags-Decide false true = (λ e. absurd (cc), λ e. absurd (cc))
flags-Decide false false = (λ e. refl, λ e. refl)

-- of two parts each is equal
both-decide : {a b : Bool} {P Q R : Type 0} → Decides a P → Decides b Q → (R → P × Q) → (P → Q → R) → Decides (a && b) R
both-decide {a = true} {b} h k apart together = (λ e. together (h.0 refl) (k.0 e), λ r. k.1 (apart r).1)
both-decide {a = false} {b} h k apart together = (λ e. absurd (cc), λ r. let same = h.1 (apart r).0 in absurd (cc))

entries-Decides : (a b : Entry) → Decides (entry.eq-value.it a b) (a ≡ b)
entries-Decides entries.All entries.All = (λ e. refl, λ e. refl)
entries-Decides (entries.Kind k) (entries.Kind m) = let same = kinds-Decide k m in (λ e. ap entries.Kind (same.0 e), λ e. same.1 (cc))
entries-Decides (entries.Account x) (entries.Account y) = let same = texts-Decide x y in (λ e. ap entries.Account (same.0 e), λ e. same.1 (cc))
entries-Decides (entries.Exact k x) (entries.Exact m y) = both-decide (kinds-Decide k m) (texts-Decide x y) (λ e. (cc, cc)) (λ e f. cc)
entries-Decides a b = (λ e. absurd (true≢false (sym e)), λ e. absurd (cc))

conds-Decides : (a b : Cond) → Decides (conds.eq-value.it a b) (a ≡ b)
conds-Decides (cond.Matches p) (cond.Matches q) = let same = pointwise_decides pieces-Decides p q in (λ e. ap cond.Matches (same.0 e), λ e. same.1 (cc))
conds-Decides (cond.Compares how m) (cond.Compares way n) = both-decide (compares-Decides how way) (scaled-Decides m n) (λ e. (cc, cc)) (λ e f. cc)
conds-Decides (cond.Inside a) (cond.Inside b) = let same = blocks-Decides a b in (λ e. ap cond.Inside (same.0 e), λ e. same.1 (cc))
conds-Decides (cond.Flag s t) (cond.Flag u v) = both-decide (flags-Decide s u) (flags-Decide t v) (λ e. (cc, cc)) (λ e f. cc)
conds-Decides (cond.Equals xs) (cond.Equals ys) = let same = bytes-Decides xs ys in (λ e. ap cond.Equals (same.0 e), λ e. same.1 (cc))
conds-Decides a b = (λ e. absurd (true≢false (sym e)), λ e. absurd (cc))

pub predicates-Decides : (a b : Predicate) → Decides (predicate.eq-value.it a b) (a ≡ b)
predicates-Decides Every Every = (λ e. refl, λ e. refl)
predicates-Decides (Principal x) (Principal y) = let same = entries-Decides x y in (λ e. ap Principal (same.0 e), λ e. same.1 (cc))
predicates-Decides (Word x) (Word y) = let same = pointwise_decides pieces-Decides x y in (λ e. ap Word (same.0 e), λ e. same.1 (cc))
predicates-Decides (Meets x) (Meets y) = let same = conds-Decides x y in (λ e. ap Meets (same.0 e), λ e. same.1 (cc))
predicates-Decides a b = (λ e. absurd (true≢false (sym e)), λ e. absurd (cc))
