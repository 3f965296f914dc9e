use Rattle.std.proofs.Common.{◌≡◌, ◌<◌, ◌≤◌, ◌+◌, ◌*◌, ℕ, false}
use Rattle.pattern_automata.specs.Packed.{is_bit_on}
use Rattle.pattern_automata.specs.Named.{bits_of, names_before}
use Rattle.pattern_automata.proofs.named.named_at.Given as goal

abbrev pub invariant-loop-bit : goal.invariant-loop-bit
invariant-loop-bit l = (c b : ℕ) → b < 64 → (b < l.bit → is_bit_on (bits_of l.named.items c) b ≡ names_before l.fronts (64 * l.index + b) c) × (l.bit ≤ b → is_bit_on (bits_of l.named.items c) b ≡ false)
