pub mod Clauses
pub mod Meaning
pub mod Solutions
pub mod Samples
