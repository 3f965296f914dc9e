pub mod Claims
pub mod Reducers
pub mod Values
