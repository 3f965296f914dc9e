-- The lemmas that crates above may cite.

-- what base64 stands for is bytes, and what bytes are written as stands for them
pub use Rattle.read_predicates.proofs.Bytes.{bytes-again, decoded-bytes}
-- blocks that texts spell are of addresses
pub use Rattle.read_predicates.proofs.Blocks.{block-in}
-- two lists of texts are equal where their compact JSON is
pub use Rattle.read_predicates.proofs.FindingTexts.{texts-apart}
