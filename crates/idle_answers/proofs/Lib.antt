mod Accepting
pub mod Laws
mod Telling
mod Verdicts
