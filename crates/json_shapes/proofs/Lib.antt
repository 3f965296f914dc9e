pub mod Laws
mod Faults
mod Steps
mod Finding
mod LineFeeds
mod Readings
mod Rising
mod Spelling
pub mod WithoutFloats
