mod Accepting
mod Comparing
pub mod Laws
