pub mod Asked
pub mod Outcomes
pub mod Values
