-- Lemmas that crates above cite.

-- blocks with the same first address and the same prefix length are the same
pub use Rattle.cidr_bits.proofs.Equal.{block-path}
-- `==` of addresses and of blocks decides whether they are the same
pub use Rattle.cidr_bits.proofs.Equal.{addresses-Decides, blocks-Decides}
-- a block is the one of its prefix length around its first address
pub use Rattle.cidr_bits.proofs.Around.{block_is_around_its_first}
-- the text that is written for an address is read as that address
pub use Rattle.cidr_bits.proofs.Readings.{address_read_again}
