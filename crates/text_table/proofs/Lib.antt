pub mod Laws
mod Copies
mod Found
