-- Which values meet which conditions.
use Rattle.std.specs.Prelude.{◌≡◌, ◌<◌, Bool, true, false, bytes_eq, All, ⊤, if◌then◌else◌}
use Rattle.intervals.specs.Scaled.{IsScaled}
use Rattle.intervals.specs.Compare.{StandsTo, stands_to}
use Rattle.cidr_bits.specs.Numbers.{IsAddress, lies_in}
use Rattle.cidr_bits.specs.Blocks.{LiesIn}
use Rattle.value_theory.specs.declared.kinds.PlainKind.{PlainKind}
use Rattle.value_theory.specs.declared.kinds.PlainKind.TheVariants as Kind
use Rattle.value_theory.specs.declared.kinds.PlainCond.{PlainCond}
use Rattle.value_theory.specs.declared.kinds.PlainCond.TheVariants.{Compares, Inside, Flag, Equals}
use Rattle.value_theory.specs.declared.kinds.PlainValue.{PlainValue}
use Rattle.value_theory.specs.declared.kinds.PlainValue.TheVariants as Value

-- the kind of values that a condition is on
abbrev pub plain_kind : PlainCond → PlainKind
plain_kind (Compares c bound) = Kind.Number
plain_kind (Inside block) = Kind.Address
plain_kind (Flag t f) = Kind.Truth
plain_kind (Equals bytes) = Kind.Bytes

-- the value is of the kind, in the range of its values
abbrev pub IsOfPlainKind : PlainKind → PlainValue → Type 0
IsOfPlainKind Kind.Truth (Value.Truth b) = ⊤
IsOfPlainKind Kind.Truth (Value.Number n) = ⊥
IsOfPlainKind Kind.Truth (Value.Address a) = ⊥
IsOfPlainKind Kind.Truth (Value.Bytes bs) = ⊥
IsOfPlainKind Kind.Number (Value.Truth b) = ⊥
IsOfPlainKind Kind.Number (Value.Number n) = IsScaled n
IsOfPlainKind Kind.Number (Value.Address a) = ⊥
IsOfPlainKind Kind.Number (Value.Bytes bs) = ⊥
IsOfPlainKind Kind.Address (Value.Truth b) = ⊥
IsOfPlainKind Kind.Address (Value.Number n) = ⊥
IsOfPlainKind Kind.Address (Value.Address a) = IsAddress a
IsOfPlainKind Kind.Address (Value.Bytes bs) = ⊥
IsOfPlainKind Kind.Bytes (Value.Truth b) = ⊥
IsOfPlainKind Kind.Bytes (Value.Number n) = ⊥
IsOfPlainKind Kind.Bytes (Value.Address a) = ⊥
IsOfPlainKind Kind.Bytes (Value.Bytes bs) = All (λ b. b < 256) bs

-- the value meets the condition; one of another kind never does
abbrev pub PlainMeets : PlainValue → PlainCond → Type 0
PlainMeets (Value.Truth b) (Compares c bound) = ⊥
PlainMeets (Value.Truth b) (Inside block) = ⊥
PlainMeets (Value.Truth b) (Flag t f) = (if b then t else f) ≡ true
PlainMeets (Value.Truth b) (Equals bytes) = ⊥
PlainMeets (Value.Number n) (Compares c bound) = StandsTo c bound n
PlainMeets (Value.Number n) (Inside block) = ⊥
PlainMeets (Value.Number n) (Flag t f) = ⊥
PlainMeets (Value.Number n) (Equals bytes) = ⊥
PlainMeets (Value.Address a) (Compares c bound) = ⊥
PlainMeets (Value.Address a) (Inside block) = LiesIn block a
PlainMeets (Value.Address a) (Flag t f) = ⊥
PlainMeets (Value.Address a) (Equals bytes) = ⊥
PlainMeets (Value.Bytes bs) (Compares c bound) = ⊥
PlainMeets (Value.Bytes bs) (Inside block) = ⊥
PlainMeets (Value.Bytes bs) (Flag t f) = ⊥
PlainMeets (Value.Bytes bs) (Equals bytes) = bs ≡ bytes

-- the same by computation: whether the value meets the condition
abbrev pub plain_meets : PlainValue → PlainCond → Bool
plain_meets (Value.Truth b) (Flag t f) = (if b then t else f)
plain_meets (Value.Truth b) _ = false
plain_meets (Value.Number n) (Compares c bound) = stands_to c bound n
plain_meets (Value.Number n) _ = false
plain_meets (Value.Address a) (Inside block) = lies_in block.first block.prefix a
plain_meets (Value.Address a) _ = false
plain_meets (Value.Bytes bs) (Equals bytes) = bytes_eq bs bytes
plain_meets (Value.Bytes bs) _ = false

-- the computation says what the relation says
abbrev pub PlainMeetsIsMeaning : Type 0
PlainMeetsIsMeaning = (v : PlainValue) (c : PlainCond) →
    (plain_meets v c ≡ true → PlainMeets v c) × (PlainMeets v c → plain_meets v c ≡ true)
