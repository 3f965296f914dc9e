pub mod Disks
pub mod Faults
pub mod Folder
pub mod MemoryFolder
pub mod Outputs
pub mod SafeFolder
pub mod Sink
pub mod MemorySink
