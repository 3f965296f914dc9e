-- Equal claims, and equal nodes.
use Rattle.std.proofs.Common.{◌≡◌, ◌&&◌, Bool, true, false, ap, refl, subst, sym, ◌∙◌, inl, inr}
use mathlib.Core.Bool.{beq}
use Rattle.std.specs.Bool.{Decides}
use Rattle.std.specs.Cmp.{IsEquivalence}
use Rattle.std.specs.Cmp.Lexicographic.{pointwise_decides}
use Rattle.std.proofs.lemmas.Bool.{and_from, cases_Bool, false≢true}
use Rattle.std.proofs.lemmas.Bool.Decides.{Decides-eqb}
use Rattle.formula_nodes.specs.declared.claim.Claim.{Claim}
use Rattle.formula_nodes.specs.contracts.claim.ClaimPartialEq.TheImpl as claims
use Rattle.formula_nodes.specs.declared.nodes.Node.{Node}
use Rattle.formula_nodes.specs.declared.nodes.Node.TheVariants as node
use Rattle.formula_nodes.specs.contracts.nodes.NodePartialEq.TheImpl as nodes

flags-same : (a b : Bool) → beq a b ≡ true → a ≡ b
flags-same true true e = refl
flags-same true false e = absurd (false≢true e)
flags-same false true e = absurd (false≢true e)
flags-same false false e = refl

flag-own : (a : Bool) → beq a a ≡ true
flag-own true = refl
flag-own false = refl

both-same : {a b : Bool} {P Q R : Type 0} → (a ≡ true → P) → (b ≡ true → Q) → (P → Q → R) → a && b ≡ true → R
both-same {a = true} {b} h k together e = together (h refl) (k e)
both-same {a = false} {b} h k together e = absurd (false≢true e)

claims-same : (a b : Claim) → claims.eq-value.it a b ≡ true → a ≡ b
claims-same a b e = both-same (λ f. (Decides-eqb a.node b.node).0 f) (flags-same a.holds b.holds) (λ f g. λ i. record { node = f i; holds = g i }) e

claims-own : (a : Claim) → claims.eq-value.it a a ≡ true
claims-own a = and_from _ _ ((Decides-eqb a.node a.node).1 refl) (flag-own a.holds)

pub claims-Decides : (a b : Claim) → Decides (claims.eq-value.it a b) (a ≡ b)
claims-Decides a b = (claims-same a b, λ e. subst (λ (x : Claim). claims.eq-value.it a x ≡ true) e (claims-own a))

pub nodes-same : (a b : Node) → nodes.eq-value.it a b ≡ true → a ≡ b
nodes-same (node.Test n) (node.Test m) e = ap node.Test ((Decides-eqb n m).0 e)
nodes-same (node.All cs) (node.All ds) e = ap node.All ((pointwise_decides claims-Decides cs ds).0 e)
nodes-same a b e = absurd (false≢true e)

claims-symm : (a b : Claim) → claims.eq-value.it a b ≡ claims.eq-value.it b a
claims-symm a b = elim (cases_Bool (claims.eq-value.it a b)) [
  | inl t ↦ subst (λ (x : Claim). claims.eq-value.it a x ≡ claims.eq-value.it x a) (claims-same a b t) refl
  | inr f ↦ elim (cases_Bool (claims.eq-value.it b a)) [
    | inl t ↦ let same = claims-same b a t in absurd (false≢true (sym f ∙ subst (λ (x : Claim). claims.eq-value.it x b ≡ true) same (claims-own b)))
    | inr g ↦ f ∙ sym g
  ]
]

pub claims-equivalence : IsEquivalence claims.eq-value.it
claims-equivalence = record {
  refl = claims-own;
  symm = claims-symm;
  congr = λ a b c e. ap (λ (x : Claim). claims.eq-value.it x c) (claims-same a b e);
}
