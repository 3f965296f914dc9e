-- Each of the 157 operators is found by its text, at once and by its parts; so both readings of a name agree.
use Rattle.std.proofs.Common.{◌≡◌, ℕ, List, Bool, true, false, Option, Some, None, refl, ap, sym, subst, ◌∙◌}
use Rattle.policy_model.specs.declared.operator.Base.{Base}
use Rattle.policy_model.specs.declared.operator.Base.TheVariants as base
use Rattle.policy_model.specs.declared.operator.Quantifier.{Quantifier}
use Rattle.policy_model.specs.declared.operator.Quantifier.TheVariants.{Plain, ForAll, ForAny}
use Rattle.policy_model.specs.declared.operator.Operator.{Operator}
use Rattle.policy_model.specs.Soundness.{OperatorIsSound}
use Rattle.policy_json.specs.OperatorNames.{operator_of, operator_text, operator_with, operators}
use Rattle.policy_json.specs.OperatorParts.{operator_by_parts}
use Rattle.policy_json.proofs.OperatorNaming.{by_parts-is, operator_of-is}

-- the operator is found by its text
record IsFound (o : Operator) : Type 0 where
  pub whole : operator_of (operator_text o) ≡ Some o
  pub parts : operator_by_parts (operator_text o) ≡ Some o

-- an operator with its two readings, and what both give
abbrev Reads : Base → Quantifier → Bool → Type 0
Reads b q i = (operator_of (operator_text (operator_with b q i)) ≡ Some (operator_with b q i)) × (operator_by_parts (operator_text (operator_with b q i)) ≡ Some (operator_with b q i))

-- the six operators of a base
six : (b : Base) → Reads b Plain false → Reads b Plain true → Reads b ForAll false → Reads b ForAll true → Reads b ForAny false → Reads b ForAny true → (q : Quantifier) (i : Bool) → IsFound (operator_with b q i)
six b p0 p1 a0 a1 n0 n1 Plain false = record { whole = p0.0; parts = p0.1 }
six b p0 p1 a0 a1 n0 n1 Plain true = record { whole = p1.0; parts = p1.1 }
six b p0 p1 a0 a1 n0 n1 ForAll false = record { whole = a0.0; parts = a0.1 }
six b p0 p1 a0 a1 n0 n1 ForAll true = record { whole = a1.0; parts = a1.1 }
six b p0 p1 a0 a1 n0 n1 ForAny false = record { whole = n0.0; parts = n0.1 }
six b p0 p1 a0 a1 n0 n1 ForAny true = record { whole = n1.0; parts = n1.1 }

null_found : IsFound (operator_with base.Null Plain false)
unfolding operators operator_of operator_by_parts
null_found = record { whole = refl; parts = refl }

by_base : (b : Base) (q : Quantifier) (i : Bool) → OperatorIsSound (operator_with b q i) → IsFound (operator_with b q i)
unfolding operators operator_of operator_by_parts
by_base base.Null q i sound =
    let is = sound refl in
    subst (λ (p : Quantifier). IsFound (operator_with base.Null p i)) (sym is.0) (subst (λ (j : Bool). IsFound (operator_with base.Null Plain j)) (sym is.1) null_found)
by_base base.StringEquals q i sound = six base.StringEquals (refl, refl) (refl, refl) (refl, refl) (refl, refl) (refl, refl) (refl, refl) q i
by_base base.StringNotEquals q i sound = six base.StringNotEquals (refl, refl) (refl, refl) (refl, refl) (refl, refl) (refl, refl) (refl, refl) q i
by_base base.StringEqualsIgnoreCase q i sound = six base.StringEqualsIgnoreCase (refl, refl) (refl, refl) (refl, refl) (refl, refl) (refl, refl) (refl, refl) q i
by_base base.StringNotEqualsIgnoreCase q i sound = six base.StringNotEqualsIgnoreCase (refl, refl) (refl, refl) (refl, refl) (refl, refl) (refl, refl) (refl, refl) q i
by_base base.StringLike q i sound = six base.StringLike (refl, refl) (refl, refl) (refl, refl) (refl, refl) (refl, refl) (refl, refl) q i
by_base base.StringNotLike q i sound = six base.StringNotLike (refl, refl) (refl, refl) (refl, refl) (refl, refl) (refl, refl) (refl, refl) q i
by_base base.NumericEquals q i sound = six base.NumericEquals (refl, refl) (refl, refl) (refl, refl) (refl, refl) (refl, refl) (refl, refl) q i
by_base base.NumericNotEquals q i sound = six base.NumericNotEquals (refl, refl) (refl, refl) (refl, refl) (refl, refl) (refl, refl) (refl, refl) q i
by_base base.NumericLessThan q i sound = six base.NumericLessThan (refl, refl) (refl, refl) (refl, refl) (refl, refl) (refl, refl) (refl, refl) q i
by_base base.NumericLessThanEquals q i sound = six base.NumericLessThanEquals (refl, refl) (refl, refl) (refl, refl) (refl, refl) (refl, refl) (refl, refl) q i
by_base base.NumericGreaterThan q i sound = six base.NumericGreaterThan (refl, refl) (refl, refl) (refl, refl) (refl, refl) (refl, refl) (refl, refl) q i
by_base base.NumericGreaterThanEquals q i sound = six base.NumericGreaterThanEquals (refl, refl) (refl, refl) (refl, refl) (refl, refl) (refl, refl) (refl, refl) q i
by_base base.DateEquals q i sound = six base.DateEquals (refl, refl) (refl, refl) (refl, refl) (refl, refl) (refl, refl) (refl, refl) q i
by_base base.DateNotEquals q i sound = six base.DateNotEquals (refl, refl) (refl, refl) (refl, refl) (refl, refl) (refl, refl) (refl, refl) q i
by_base base.DateLessThan q i sound = six base.DateLessThan (refl, refl) (refl, refl) (refl, refl) (refl, refl) (refl, refl) (refl, refl) q i
by_base base.DateLessThanEquals q i sound = six base.DateLessThanEquals (refl, refl) (refl, refl) (refl, refl) (refl, refl) (refl, refl) (refl, refl) q i
by_base base.DateGreaterThan q i sound = six base.DateGreaterThan (refl, refl) (refl, refl) (refl, refl) (refl, refl) (refl, refl) (refl, refl) q i
by_base base.DateGreaterThanEquals q i sound = six base.DateGreaterThanEquals (refl, refl) (refl, refl) (refl, refl) (refl, refl) (refl, refl) (refl, refl) q i
by_base base.Bool q i sound = six base.Bool (refl, refl) (refl, refl) (refl, refl) (refl, refl) (refl, refl) (refl, refl) q i
by_base base.BinaryEquals q i sound = six base.BinaryEquals (refl, refl) (refl, refl) (refl, refl) (refl, refl) (refl, refl) (refl, refl) q i
by_base base.IpAddress q i sound = six base.IpAddress (refl, refl) (refl, refl) (refl, refl) (refl, refl) (refl, refl) (refl, refl) q i
by_base base.NotIpAddress q i sound = six base.NotIpAddress (refl, refl) (refl, refl) (refl, refl) (refl, refl) (refl, refl) (refl, refl) q i
by_base base.ArnEquals q i sound = six base.ArnEquals (refl, refl) (refl, refl) (refl, refl) (refl, refl) (refl, refl) (refl, refl) q i
by_base base.ArnLike q i sound = six base.ArnLike (refl, refl) (refl, refl) (refl, refl) (refl, refl) (refl, refl) (refl, refl) q i
by_base base.ArnNotEquals q i sound = six base.ArnNotEquals (refl, refl) (refl, refl) (refl, refl) (refl, refl) (refl, refl) (refl, refl) q i
by_base base.ArnNotLike q i sound = six base.ArnNotLike (refl, refl) (refl, refl) (refl, refl) (refl, refl) (refl, refl) (refl, refl) q i

is_found : (o : Operator) → OperatorIsSound o → IsFound o
is_found o sound = by_base o.base o.quantifier o.if_exists sound

-- an operator's text is read as that operator
pub operator_of-text : (name : List ℕ) (o : Operator) → name ≡ operator_text o → OperatorIsSound o → operator_of name ≡ Some o
operator_of-text name o is sound = ap operator_of is ∙ (is_found o sound).whole

by_parts-text : (name : List ℕ) (o : Operator) → name ≡ operator_text o → OperatorIsSound o → operator_by_parts name ≡ Some o
by_parts-text name o is sound = ap operator_by_parts is ∙ (is_found o sound).parts

agree : (name : List ℕ) (parts whole : Option Operator) → operator_by_parts name ≡ parts → operator_of name ≡ whole → parts ≡ whole
agree name (Some o) whole p w = let is = by_parts-is name o p in sym (operator_of-text name o is.0 is.1) ∙ w
agree name None (Some o) p w = let is = operator_of-is name o w in sym p ∙ by_parts-text name o is.0 is.1
agree name None None p w = refl

-- both readings of a name agree
pub parts_agree : (name : List ℕ) → operator_by_parts name ≡ operator_of name
parts_agree name = agree name (operator_by_parts name) (operator_of name) refl refl
