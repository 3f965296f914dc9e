pub mod Numbers
pub mod Cleared
pub mod Blocks
pub mod Forms
pub mod Readings
pub mod Texts
pub mod Laws
