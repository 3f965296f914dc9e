pub mod Evaluated
pub mod Sayings
