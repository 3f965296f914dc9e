pub mod Nodes
pub mod Leading
pub mod Decisions
pub mod Values
pub mod Cores
pub mod States
pub mod Search
pub mod Whole
