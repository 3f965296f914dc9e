pub mod Certified
pub mod Checks
pub mod Comparison
pub mod Complete
pub mod Decided
pub mod Printed
pub mod Texts
