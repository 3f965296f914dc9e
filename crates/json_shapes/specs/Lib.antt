pub mod Json
pub mod Shapes
pub mod Checks
pub mod Spelled
