-- Of each value it is decided whether it meets what is asked.
use Rattle.std.proofs.Common.{◌⊎◌, ◌↔◌, ◌==◌, List, Bool, Any, inl, inr}
use Rattle.std.specs.Bool.{Decides}
use Rattle.std.specs.Prelude.{if◌then◌else◌}
use Rattle.std.specs.Cmp.Lexicographic.{pointwise}
use Rattle.std.proofs.lemmas.Bool.{cases_Bool, both_ways}
use Rattle.intervals.proofs.Laws.{bytes-Decides, Decides-stands_to}
use Rattle.intervals.specs.Compare.{stands_to}
use Rattle.cidr_bits.specs.Numbers.{lies_in}
use Rattle.wildcard_lang.specs.Accepts.{accepts}
use Rattle.wildcard_lang.proofs.Laws.{Decides-accepts}
use Rattle.policy_model.specs.declared.cond.Cond.{Cond}
use Rattle.policy_model.specs.declared.cond.Cond.TheVariants as cond
use Rattle.policy_model.specs.declared.value.Kind.{Kind}
use Rattle.policy_model.specs.declared.value.Value.{Value}
use Rattle.policy_model.specs.declared.value.Value.TheVariants as value
use Rattle.policy_model.specs.declared.operator.Condition.{Condition}
use Rattle.policy_model.specs.Conds.{CondMeets, MeetsSome}
use Rattle.policy_model.specs.Conditions.{conds_of}
use Rattle.policy_model.specs.Operators.{cond_of}
use Rattle.policy_model.proofs.Quantified.{Any-decided, Any-map}

by-test : {P : Type 0} (b : Bool) → Decides b P → P ⊎ ¬ P
by-test b d = elim (cases_Bool b) [ inl e ↦ inl (d.0 e) | inr e ↦ inr (λ h. both_ways b e (d.1 h)) ]

pub meets-decided : (v : Value) (c : Cond) → CondMeets v c ⊎ ¬ CondMeets v c
meets-decided (value.Word t) (cond.Matches p) = by-test (accepts p t) (Decides-accepts p t)
meets-decided (value.Word t) c = inr (λ h. h)
meets-decided (value.Truth b) (cond.Flag at_true at_false) = by-test (if b then at_true else at_false) (λ e. e, λ e. e)
meets-decided (value.Truth b) c = inr (λ h. h)
meets-decided (value.Number n) (cond.Compares how bound) = by-test (stands_to how bound n) (Decides-stands_to how bound n)
meets-decided (value.Number n) c = inr (λ h. h)
meets-decided (value.Address a) (cond.Inside block) = by-test (lies_in block.first block.prefix a) (λ e. e, λ e. e)
meets-decided (value.Address a) c = inr (λ h. h)
meets-decided (value.Bytes bs) (cond.Equals bytes) = by-test (pointwise ◌==◌ bs bytes) (bytes-Decides bs bytes)
meets-decided (value.Bytes bs) c = inr (λ h. h)

pub meets-some-decided : (cs : List Cond) (v : Value) → MeetsSome cs v ⊎ ¬ MeetsSome cs v
meets-some-decided cs v = Any-decided (CondMeets v) (meets-decided v) cs

pub meets-some-asked : (k : Kind) (c : Condition) (v : Value) → MeetsSome (conds_of k c) v ↔ Any (λ o. CondMeets v (cond_of k c.operator.base o)) c.values
meets-some-asked k c v = Any-map (CondMeets v) (cond_of k c.operator.base) c.values
