pub mod Written
pub mod Emitted
pub mod Kept
pub mod Laws
pub mod KnownKeys
