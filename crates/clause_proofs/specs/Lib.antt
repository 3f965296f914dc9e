pub mod Refuting
pub mod Checks
pub mod Laws
