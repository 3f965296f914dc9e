pub mod Answers
pub mod Laws
pub mod Looks
pub mod Nodes
pub mod Runs
pub mod Trees
pub mod Values
