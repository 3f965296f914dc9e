mod Emitting
pub mod Laws
