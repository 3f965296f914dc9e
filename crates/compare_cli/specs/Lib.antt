pub mod Commands
pub mod Complete
pub mod LastFiles
pub mod Promises
