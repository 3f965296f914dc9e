mod Existing
mod Filling
mod First
mod Joining
pub mod Laws
