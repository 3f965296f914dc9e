-- What the forms, the computed readings and what is written say of one another.
use Rattle.std.specs.Prelude.{◌≡◌, ◌↔◌, ℕ, List, Some, Result, Ok, IsOkAnd}
use Rattle.cidr_bits.specs.declared.address.Address.{Address}
use Rattle.cidr_bits.specs.declared.address.BadAddress.{BadAddress}
use Rattle.cidr_bits.specs.declared.block.Block.{Block}
use Rattle.cidr_bits.specs.Numbers.{IsAddress}
use Rattle.cidr_bits.specs.Forms.{IsAddressText, IsBlockText, ReadsAddress, ReadsBlock}
use Rattle.cidr_bits.specs.Readings.{address_of, block_of}
use Rattle.cidr_bits.specs.Texts.{address_text, block_text}

-- a text spells one address at most
abbrev pub OneAddress : Type 0
OneAddress = (text : List ℕ) (a b : Address) → IsAddressText text a → IsAddressText text b → a ≡ b

-- and one block
abbrev pub OneBlock : Type 0
OneBlock = (text : List ℕ) (a b : Address) (p q : ℕ) → IsBlockText text a p → IsBlockText text b q → (a ≡ b) × (p ≡ q)

-- what is computed is what the forms say
abbrev pub AddressOfIsTheForm : Type 0
AddressOfIsTheForm = (text : List ℕ) (a : Address) → (address_of text ≡ Some a) ↔ IsAddressText text a

abbrev pub BlockOfIsTheForm : Type 0
BlockOfIsTheForm = (text : List ℕ) (first : Address) (prefix : ℕ) →
    (block_of text ≡ Some (first, prefix)) ↔ IsBlockText text first prefix

-- the text that is written for an address spells it, and the text that is written for a block spells that
abbrev pub AddressIsSpelled : Type 0
AddressIsSpelled = (a : Address) → IsAddress a → IsAddressText (address_text a) a

abbrev pub BlockIsSpelled : Type 0
BlockIsSpelled = (block : Block) → IsAddress block.first →
    IsBlockText (block_text block.first block.prefix) block.first block.prefix

-- the text that is written for an address is read as that address
abbrev pub AddressReadBack : Type 0
AddressReadBack = (a : Address) (r : Result Address BadAddress) → IsAddress a → ReadsAddress (address_text a) r → r ≡ Ok a

-- and the text that is written for a block as that block
abbrev pub BlockReadBack : Type 0
BlockReadBack = (block : Block) (r : Result Block BadAddress) → IsAddress block.first →
    ReadsBlock (block_text block.first block.prefix) r →
    IsOkAnd r (λ read. (read.first ≡ block.first) × (read.prefix ≡ block.prefix))
