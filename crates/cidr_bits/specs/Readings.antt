-- The forms of addresses and blocks as a computation: what a text stands for, or none where it is of no form. The readers of the
-- standard library's addresses take the front of a text, and give the octets or groups and the rest.
use Rattle.std.specs.Prelude.{ℕ, List, [], ◌∷◌, ◌&&◌, ◌==◌, nat_le, bytes_eq, decimal, Option, Some, None, option_map, option_and_then, if◌then◌else◌}
use Rattle.std.specs.Option.{option_or}
use Rattle.std.specs.Int.Digits.{number_from_digits}
use Rattle.std.specs.Str.Parse.{digits_value}
use Rattle.std.specs.Net.Reader.{read_ipv4, read_ipv6}
use Rattle.cidr_bits.specs.declared.address.Address.{Address}
use Rattle.cidr_bits.specs.declared.address.Address.TheVariants.{V4, V6}
use Rattle.cidr_bits.specs.declared.block.Block.{Block}
use Rattle.cidr_bits.specs.Numbers.{width, network_address}
use Rattle.cidr_bits.specs.Blocks.{block_around}

-- the numbers that a reader read, where nothing stands behind them
abbrev pub whole_reading : List ℕ → List ℕ → Option (List ℕ)
whole_reading numbers [] = Some numbers
whole_reading numbers (c ∷ rest) = None

abbrev pub to_end : Option (List ℕ × List ℕ) → Option (List ℕ)
to_end None = None
to_end (Some read) = whole_reading read.0 read.1

-- the address of each family, from its octets or its groups
abbrev pub of_octets : List ℕ → Address
of_octets octets = V4 (number_from_digits 256 octets)

abbrev pub of_groups : List ℕ → Address
of_groups groups = V6 (number_from_digits 65536 groups)

-- the address that the text stands for
unfoldable pub address_of : List ℕ → Option Address
address_of text = option_or (option_map of_octets (to_end (read_ipv4 text))) (option_map of_groups (to_end (read_ipv6 text)))

-- the text before the first `/`, and the text from there on
abbrev pub before_slash : List ℕ → List ℕ
before_slash [] = []
before_slash (c ∷ text) = (if c == 47 then [] else c ∷ before_slash text)

abbrev pub from_slash : List ℕ → List ℕ
from_slash [] = []
from_slash (c ∷ text) = (if c == 47 then c ∷ text else from_slash text)

-- the prefix length n of at most this many bits, where the digits are how it is written
abbrev pub prefix_written : ℕ → List ℕ → ℕ → Option ℕ
prefix_written bits digits n = (if nat_le n bits && bytes_eq digits (decimal n) then Some n else None)

-- the prefix length that the text from the first `/` on gives
abbrev pub length_of : ℕ → List ℕ → Option ℕ
length_of bits [] = Some bits
length_of bits (slash ∷ digits) = prefix_written bits digits (digits_value 10 digits)

-- the first address and the prefix length of the block that the text stands for
unfoldable pub block_of : List ℕ → Option (Address × ℕ)
block_of text = option_and_then
    (λ address. option_map (λ prefix. (network_address address prefix, prefix)) (length_of (width address) (from_slash text)))
    (address_of (before_slash text))

-- the block that the text stands for
abbrev pub block_spelled : List ℕ → Option Block
block_spelled text = option_map (λ parts. block_around parts.0 parts.1) (block_of text)
