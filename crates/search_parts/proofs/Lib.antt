mod Adding
mod Choosing
mod Closing
mod Fewer
mod Halving
pub mod Laws
mod Making
mod Naming
mod Needing
mod Omitting
mod Renamed
mod Trimming
mod Unmet
