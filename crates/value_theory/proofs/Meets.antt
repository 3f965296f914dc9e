-- What is computed of a value and a condition is whether the value meets it.
use Rattle.std.proofs.lemmas.Slice.Eq.{bytes_eq-Decides}
use Rattle.intervals.proofs.Laws.{Decides-stands_to}
use Rattle.value_theory.specs.declared.kinds.PlainCond.TheVariants.{Compares, Inside, Flag, Equals}
use Rattle.value_theory.specs.declared.kinds.PlainValue.TheVariants as Value
use Rattle.value_theory.specs.Meaning.{PlainMeetsIsMeaning}

pub Decides-plain_meets : PlainMeetsIsMeaning
Decides-plain_meets (Value.Truth b) (Flag t f) = (λ e. e, λ e. e)
Decides-plain_meets (Value.Truth b) (Compares how bound) = (λ e. absurd (cc), λ h. absurd h)
Decides-plain_meets (Value.Truth b) (Inside block) = (λ e. absurd (cc), λ h. absurd h)
Decides-plain_meets (Value.Truth b) (Equals bytes) = (λ e. absurd (cc), λ h. absurd h)
Decides-plain_meets (Value.Number n) (Compares how bound) = Decides-stands_to how bound n
Decides-plain_meets (Value.Number n) (Inside block) = (λ e. absurd (cc), λ h. absurd h)
Decides-plain_meets (Value.Number n) (Flag t f) = (λ e. absurd (cc), λ h. absurd h)
Decides-plain_meets (Value.Number n) (Equals bytes) = (λ e. absurd (cc), λ h. absurd h)
Decides-plain_meets (Value.Address a) (Inside block) = (λ e. e, λ e. e)
Decides-plain_meets (Value.Address a) (Compares how bound) = (λ e. absurd (cc), λ h. absurd h)
Decides-plain_meets (Value.Address a) (Flag t f) = (λ e. absurd (cc), λ h. absurd h)
Decides-plain_meets (Value.Address a) (Equals bytes) = (λ e. absurd (cc), λ h. absurd h)
Decides-plain_meets (Value.Bytes bs) (Equals bytes) = bytes_eq-Decides bs bytes
Decides-plain_meets (Value.Bytes bs) (Compares how bound) = (λ e. absurd (cc), λ h. absurd h)
Decides-plain_meets (Value.Bytes bs) (Inside block) = (λ e. absurd (cc), λ h. absurd h)
Decides-plain_meets (Value.Bytes bs) (Flag t f) = (λ e. absurd (cc), λ h. absurd h)
