-- What is written for an address and a block.
use Rattle.std.specs.Prelude.{ℕ, zero, suc, ◌/◌, ◌%◌, List, [], ◌∷◌, ◌++◌, codes, decimal}
use Rattle.std.specs.Net.Text.{ipv4_text, groups_text}
use Rattle.cidr_bits.specs.declared.address.Address.{Address}
use Rattle.cidr_bits.specs.declared.address.Address.TheVariants.{V4, V6}

-- the last k digits of the number in the base, the highest first
abbrev pub last_digits : ℕ → ℕ → ℕ → List ℕ
last_digits base zero n = []
last_digits base (suc k) n = last_digits base k (n / base) ++ (n % base) ∷ []

-- an IPv4 address as its four octets in decimal, and an IPv6 address as its eight groups in lower-case hex without leading
-- zeros and without `::`
abbrev pub address_text : Address → List ℕ
address_text (V4 n) = ipv4_text (last_digits 256 4 n)
address_text (V6 n) = groups_text (last_digits 65536 8 n)

-- a block as its first address, `/` and its prefix length
abbrev pub block_text : Address → ℕ → List ℕ
block_text first prefix = address_text first ++ codes "/" ++ decimal prefix
