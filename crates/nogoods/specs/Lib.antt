pub mod Hits
pub mod Joining
pub mod Stored
pub mod Tracking
pub mod Turning
