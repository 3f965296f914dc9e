pub mod Arguments
pub mod Asked
pub mod Forms
pub mod Named
pub mod Parsing
pub mod Ranges
