mod Growing
pub mod Laws
mod Naming
mod Summarising
