-- The two sets are sound.
use Rattle.std.proofs.Common.{◌<◌, ℕ, zero, suc, List, [], ◌∷◌, false, codes, refl, arith, lit≤}
use Rattle.std.specs.Prelude.{All, chars}
use Rattle.std.proofs.lemmas.List.Elements.{All-append, All-cons}
use Rattle.wildcard_lang.specs.declared.piece.Piece.{Piece}
use Rattle.policy_model.specs.declared.operator.Condition.{Condition}
use Rattle.policy_model.specs.declared.operator.Family.TheVariants.{Text}
use Rattle.policy_model.specs.declared.operator.Operand.{Operand}
use Rattle.policy_model.specs.declared.operator.Operand.TheVariants.{Pattern}
use Rattle.wildcard_lang.specs.Reading.{literals}
use Rattle.policy_model.specs.Operators.{IsOperandOf}
use Rattle.policy_model.specs.Soundness.{ConditionIsSound, DocumentIsSound, EntryIsSound, IsSound, StatementIsSound}
use Rattle.policy_load.proofs.Names.{key_is_folded}
use Rattle.policy_load.specs.declared.keys.TheConstants.{KEY_NUMBERS}
use Rattle.policy_load.specs.Loads.{first_load, load_condition, load_conditions, load_statement, of_one, second_load}

none_sound : {X : Type 0} (P : X → Type 0) → All P []
none_sound P k d lt = absurd (omega arith)

one_sound : {X : Type 0} (P : X → Type 0) (x : X) → P x → All P (x ∷ [])
one_sound P x h = All-cons P x [] h (none_sound P)

-- the value is a text
abbrev IsTextOperand : Operand → Type 0
IsTextOperand o = IsOperandOf Text o

abbrev text_value : List ℕ → Operand
text_value text = Pattern (literals false (chars text))

condition_sound : (n : ℕ) → n < KEY_NUMBERS → ConditionIsSound (load_condition n)
condition_sound n lt = record {
  key = key_is_folded n lt;
  operator = λ e. (refl, refl);
  values = All-cons IsTextOperand (text_value (codes "a")) (text_value (codes "b") ∷ []) tt (one_sound IsTextOperand (text_value (codes "b")) tt);
}

conditions_sound : (n : ℕ) → n < KEY_NUMBERS → All ConditionIsSound (load_conditions n)
conditions_sound zero lt = none_sound ConditionIsSound
conditions_sound (suc n) lt =
    All-append ConditionIsSound _ _ (conditions_sound n (omega arith)) (one_sound ConditionIsSound (load_condition (suc n)) (condition_sound (suc n) lt))

statement_sound : (resource : List Piece) (conditions : List Condition) → All ConditionIsSound conditions → IsSound (of_one (load_statement resource conditions))
statement_sound resource conditions sound = record {
  documents = lit≤ tt;
  guards = lit≤ tt;
  granting = one_sound DocumentIsSound _ (record { count = lit≤ tt; each = one_sound StatementIsSound _ (record { principal = one_sound EntryIsSound _ tt; conditions = sound }) });
  guarding = none_sound (All DocumentIsSound);
}

pub first_sound : (n : ℕ) → n < KEY_NUMBERS → IsSound (first_load n)
first_sound n lt = statement_sound _ (load_conditions n) (conditions_sound n lt)

pub second_sound : IsSound second_load
second_sound = statement_sound _ [] (none_sound ConditionIsSound)
