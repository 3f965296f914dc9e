pub mod Heads
pub mod Reading
pub mod Made
pub mod CoverTexts
pub mod CoverProofs
pub mod Judged
pub mod Certified
pub mod Decides
