-- The values of a key that nothing is asked of are values that its rule permits.
use Rattle.std.proofs.Common.{◌≡◌, ℕ, Bool, true, false, zero, List, [], ◌∷◌, slice_get, Option, Some, None, All, ◌<◌, refl, sym, subst, inr, arith}
use Rattle.std.specs.Prelude.{if◌then◌else◌}
use Rattle.std.proofs.lemmas.List.Elements.{All-nil, All-cons}
use Rattle.std.specs.BTreeMap.{is_at}
use Rattle.std.specs.Ordering.{nat_cmp}
use Rattle.std.specs.Cmp.Lexicographic.{slice_cmp}
use Rattle.std.proofs.lemmas.Map.Entries.{All-lookup}
use Rattle.text_table.specs.Table.{Entries, item_at}
use Rattle.wildcard_lang.specs.declared.piece.Piece.{Piece}
use Rattle.policy_model.specs.declared.schema.KeyRule.{KeyRule}
use Rattle.policy_model.specs.declared.value.Kind.{Kind}
use Rattle.policy_model.specs.declared.value.Kind.TheVariants as kind
use Rattle.policy_model.specs.declared.value.Value.{Value}
use Rattle.policy_model.specs.declared.value.Value.TheVariants as key_value
use Rattle.policy_model.specs.Requests.{IsOfKind, IsValueOf, ValueFits}
use Rattle.policy_model.specs.Soundness.{ListIsSound, RuleIsSound}
use Rattle.set_operators.specs.Asks.{AreValuesOf}
use Rattle.slot_theory.specs.Unasked.{listed_or, plain_value, sample, shaped_or, stated_key, stated_values}
use Rattle.slot_theory.proofs.Sampling.{sample-matches, sample-text}

-- where values are listed, there is a first one
pub some-listed : (rule : KeyRule) (listed : List Value) → rule.among ≡ Some listed → RuleIsSound rule → None ≡ slice_get listed 0 → ⊥
some-listed rule [] among sound none = (subst (λ o. ListIsSound o rule) among sound.listed).0 refl
some-listed rule (v ∷ vs) among sound none = absurd cc

free-fits : (v : Value) → ValueFits None v
free-fits (key_value.Word t) = tt
free-fits (key_value.Truth b) = tt
free-fits (key_value.Number n) = tt
free-fits (key_value.Address a) = tt
free-fits (key_value.Bytes bs) = tt

plain-kind : (k : Kind) → IsOfKind k (plain_value k)
plain-kind kind.Text = refl
plain-kind kind.Truth = tt
plain-kind kind.Number = omega arith
plain-kind kind.Address = omega arith
plain-kind kind.Bytes = All-nil (λ b. b < 256)

permitted-by : (k : Kind) (many required : Bool) (among : Option (List Value)) (shape : Option (List Piece)) →
    RuleIsSound (record { kind = k; many = many; required = required; among = among; shape = shape }) →
    IsValueOf (record { kind = k; many = many; required = required; among = among; shape = shape }) (listed_or among (shaped_or shape (plain_value k)))
permitted-by k many required (Some []) shape sound = absurd (sound.listed.0 refl)
permitted-by k many required (Some (v ∷ vs)) None sound = record { kind = sound.listed.1 0 v (omega arith); fits = free-fits v; listed = (zero, omega arith, refl) }
permitted-by k many required (Some (v ∷ vs)) (Some shape) sound = let none = sound.shape.2 in absurd (cc)
permitted-by k many required None None sound = record { kind = plain-kind k; fits = free-fits (plain_value k); listed = tt }
permitted-by k many required None (Some shape) sound =
    record { kind = subst (λ (j : Kind). IsOfKind j (key_value.Word (sample shape))) (sym sound.shape.1) (sample-text shape sound.shape.0.scalars); fits = sample-matches shape; listed = tt }

pub key-permitted : (rule : KeyRule) → RuleIsSound rule → IsValueOf rule (stated_key rule)
key-permitted rule sound = permitted-by rule.kind rule.many rule.required rule.among rule.shape sound

one-permitted : (rule : KeyRule) (v : Value) → IsValueOf rule v → AreValuesOf rule (v ∷ [])
one-permitted rule v is = record {
  permitted = record { each = All-cons (IsValueOf rule) v [] is (All-nil (IsValueOf rule)); count = inr (omega arith) };
  there = λ required none. absurd (cc);
}

none-permitted : (rule : KeyRule) → rule.required ≡ false → AreValuesOf rule []
none-permitted rule free = record {
  permitted = record { each = All-nil (IsValueOf rule); count = inr (omega arith) };
  there = λ required none. absurd (cc);
}

permitted-where : (rule : KeyRule) (required : Bool) → rule.required ≡ required → RuleIsSound rule → AreValuesOf rule (if required then stated_key rule ∷ [] else [])
permitted-where rule true is sound = one-permitted rule (stated_key rule) (key-permitted rule sound)
permitted-where rule false is sound = none-permitted rule is

pub values-permitted : (rule : KeyRule) → RuleIsSound rule → AreValuesOf rule (stated_values rule)
values-permitted rule sound = permitted-where rule rule.required refl sound

-- the rule of a key of sound rules is sound
pub rule-sound : (keys : Entries KeyRule) (key : List ℕ) (rule : KeyRule) → All (λ (e : List ℕ × KeyRule). RuleIsSound e.1) keys → item_at key keys ≡ Some rule → RuleIsSound rule
rule-sound keys key rule sound there = rw there at (All-lookup RuleIsSound (is_at (slice_cmp nat_cmp key)) keys sound)
