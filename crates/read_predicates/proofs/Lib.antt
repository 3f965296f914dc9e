pub mod Laws
mod Apart
mod Blocks
mod Bytes
mod Compared
mod FindingTexts
mod Naming
mod Numbered
mod Patterns
mod Provenance
mod Ranges
mod Uses
