mod Adding
mod Joining
pub mod Laws
mod Same
mod Standing
mod Valuing
