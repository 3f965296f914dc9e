-- Addresses as numbers, and the bits of an address that a block fixes.
use Rattle.std.specs.Prelude.{ℕ, ◌-◌, ◌*◌, ◌/◌, ◌^◌, ◌<◌, Bool, true, false, ◌&&◌, ◌==◌}
use Rattle.cidr_bits.specs.declared.address.Address.{Address}
use Rattle.cidr_bits.specs.declared.address.Address.TheVariants.{V4, V6}

-- how many bits an address has
abbrev pub width : Address → ℕ
width (V4 n) = 32
width (V6 n) = 128

-- the address as a number
abbrev pub number : Address → ℕ
number (V4 n) = n
number (V6 n) = n

-- the number fits the address's bits
abbrev pub IsAddress : Address → Type 0
IsAddress a = number a < 2 ^ width a

-- whether both addresses are IPv4 addresses, or both are IPv6 addresses
abbrev pub same_family : Address → Address → Bool
same_family (V4 m) (V4 n) = true
same_family (V4 m) (V6 n) = false
same_family (V6 m) (V4 n) = false
same_family (V6 m) (V6 n) = true

-- the first bits of an address, as a number
abbrev pub first_bits : Address → ℕ → ℕ
first_bits a prefix = number a / 2 ^ (width a - prefix)

-- whether the address lies in a block: it is of the block's family, and its first `prefix` bits are those of the block
abbrev pub lies_in : Address → ℕ → Address → Bool
lies_in first prefix a = same_family first a && (first_bits a prefix == first_bits first prefix)

-- the address with each bit after the first `prefix` ones set to zero
abbrev pub network_address : Address → ℕ → Address
network_address (V4 n) prefix = V4 (n / 2 ^ (32 - prefix) * 2 ^ (32 - prefix))
network_address (V6 n) prefix = V6 (n / 2 ^ (128 - prefix) * 2 ^ (128 - prefix))
