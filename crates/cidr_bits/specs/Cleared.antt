-- Facts that a definition of a block carries: what holds of an address whose last bits are set to zero.
use Rattle.std.specs.Prelude.{◌≡◌, ℕ, ◌-◌, ◌/◌, ◌%◌, ◌^◌, ◌≤◌, min}
use Rattle.std.proofs.Common.{refl}
use Rattle.std.proofs.Math.Nat.{mul-mod_left, min-le_right}
use Rattle.cidr_bits.specs.declared.address.Address.{Address}
use Rattle.cidr_bits.specs.declared.address.Address.TheVariants.{V4, V6}
use Rattle.cidr_bits.specs.Numbers.{number, width, network_address}

pub width-cleared : (a : Address) (prefix : ℕ) → width (network_address a prefix) ≡ width a
width-cleared (V4 n) prefix = refl
width-cleared (V6 n) prefix = refl

pub fits-cleared : (a : Address) (prefix : ℕ) → min prefix (width a) ≤ width (network_address a (min prefix (width a)))
fits-cleared (V4 n) prefix = min-le_right prefix 32
fits-cleared (V6 n) prefix = min-le_right prefix 128

pub number-cleared : (a : Address) (prefix : ℕ) → number (network_address a prefix) % 2 ^ (width (network_address a prefix) - prefix) ≡ 0
number-cleared (V4 n) prefix = mul-mod_left (n / 2 ^ (32 - prefix)) (2 ^ (32 - prefix))
number-cleared (V6 n) prefix = mul-mod_left (n / 2 ^ (128 - prefix)) (2 ^ (128 - prefix))
