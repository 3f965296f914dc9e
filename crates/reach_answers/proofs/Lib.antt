pub mod Laws
mod Reaching
