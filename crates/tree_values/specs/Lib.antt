pub mod Cuts
pub mod Giving
pub mod Leaving
pub mod Models
pub mod Nodes
pub mod Omitting
