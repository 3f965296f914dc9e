pub mod Complete
pub mod Dimensions
pub mod FindingTexts
pub mod Found
pub mod Printed
pub mod Subjects
