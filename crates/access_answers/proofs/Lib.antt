mod Accepted
mod Changes
pub mod Laws
mod Said
