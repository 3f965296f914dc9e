-- The sample points: values that stand for all values of their kind.
use Rattle.std.specs.Prelude.{◌≡◌, Contains, ℕ, ◌+◌, ◌^◌, List, [], ◌∷◌, ◌++◌, length, ℤ, negsuc, pos, ◌+ℤ◌, unsigned_abs, nat_lt, replicate, fold, max, true, false, if◌then◌else◌}
use Rattle.std.specs.List.{flat_map}
use Rattle.intervals.specs.Scaled.{size_limit}
use Rattle.cidr_bits.specs.declared.address.Address.{Address}
use Rattle.cidr_bits.specs.declared.address.Address.TheVariants.{V4, V6}
use Rattle.cidr_bits.specs.declared.block.Block.{Block}
use Rattle.cidr_bits.specs.Numbers.{number}
use Rattle.cidr_bits.specs.Blocks.{block_size}
use Rattle.value_theory.specs.Meaning.{IsOfPlainKind}
use Rattle.value_theory.specs.Solutions.{answers}
use Rattle.value_theory.specs.declared.kinds.PlainKind.{PlainKind}
use Rattle.value_theory.specs.declared.kinds.PlainKind.TheVariants as Kind
use Rattle.value_theory.specs.declared.kinds.PlainCond.{PlainCond}
use Rattle.value_theory.specs.declared.kinds.PlainCond.TheVariants.{Compares, Inside, Flag, Equals}
use Rattle.value_theory.specs.declared.kinds.PlainValue.{PlainValue}
use Rattle.value_theory.specs.declared.kinds.PlainValue.TheVariants as Value

-- the number, where it is in range
abbrev pub number_at : ℤ → List PlainValue
number_at n = (if nat_lt (unsigned_abs n) size_limit then Value.Number n ∷ [] else [])

-- the points of a bound: itself and the next number, where there is one
abbrev pub number_samples : ℤ → List PlainValue
number_samples bound = Value.Number bound ∷ number_at (bound +ℤ pos 1)

-- the address of the family of this number, where there is one
abbrev pub address_at : Address → ℕ → List PlainValue
address_at (V4 m) n = (if nat_lt n (2 ^ 32) then Value.Address (V4 n) ∷ [] else [])
address_at (V6 m) n = (if nat_lt n (2 ^ 128) then Value.Address (V6 n) ∷ [] else [])

-- the points of a block: its first address, and the one past its last, where there is one
abbrev pub address_samples : Block → List PlainValue
address_samples block = Value.Address block.first ∷ address_at block.first (number block.first + block_size block)

-- the points at which the answer to a condition changes: those of its bound or block, and the byte string itself
abbrev pub samples_at : PlainCond → List PlainValue
samples_at (Compares c bound) = number_samples bound
samples_at (Inside block) = address_samples block
samples_at (Flag t f) = []
samples_at (Equals bytes) = Value.Bytes bytes ∷ []

-- the length of the byte string that a condition names, if it does
abbrev pub length_named : PlainCond → ℕ
length_named (Compares c bound) = 0
length_named (Inside block) = 0
length_named (Flag t f) = 0
length_named (Equals bytes) = length bytes

-- the length of the longest byte string that a condition names
abbrev pub longest_length : List PlainCond → ℕ
longest_length conds = fold (λ most c. max most (length_named c)) 0 conds

-- a byte string that no condition names: it is longer than each
abbrev pub fresh_bytes : List PlainCond → List ℕ
fresh_bytes conds = replicate (longest_length conds) 0 ++ 0 ∷ []

-- the points that are tried first: both truth values, 0, the least address of each family, and a byte string that no condition
-- names
abbrev pub first_samples : PlainKind → List PlainCond → List PlainValue
first_samples Kind.Truth conds = Value.Truth false ∷ Value.Truth true ∷ []
first_samples Kind.Number conds = Value.Number (pos 0) ∷ []
first_samples Kind.Address conds = Value.Address (V4 0) ∷ Value.Address (V6 0) ∷ []
first_samples Kind.Bytes conds = Value.Bytes (fresh_bytes conds) ∷ []

-- the point that is tried last, since nobody can use it: the least number, which stands for those below each bound
abbrev pub last_samples : PlainKind → List PlainValue
last_samples Kind.Truth = []
last_samples Kind.Number = Value.Number (negsuc 999_999_999_999_999_999_999_999_998) ∷ []
last_samples Kind.Address = []
last_samples Kind.Bytes = []

-- all sample points, in the order in which they are tried
abbrev pub samples : PlainKind → List PlainCond → List PlainValue
samples kind conds = (first_samples kind conds ++ flat_map samples_at conds) ++ last_samples kind

-- each value of the kind has a sample point of the kind with the same answers to all conditions
abbrev pub SamplesStandForAll : Type 0
SamplesStandForAll = (kind : PlainKind) (conds : List PlainCond) (v : PlainValue) → IsOfPlainKind kind v →
    (point : PlainValue) × IsOfPlainKind kind point × Contains (samples kind conds) point
    × (answers conds v ≡ answers conds point)
