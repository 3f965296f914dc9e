mod Carrying
mod Finding
mod Following
mod Keeping
mod Leading
pub mod Laws
mod Picking
mod Searching
mod Splitting
mod Standing
mod Starting
