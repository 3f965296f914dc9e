pub mod Claims
pub mod Parts
pub mod Standing
pub mod Steps
