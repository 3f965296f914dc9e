mod Accepting
mod Agreeing
mod Closed
pub mod Deciding
mod Ending
mod Equals
mod Existing
mod Extending
mod Failing
mod Labelling
pub mod Laws
mod Meeting
mod Picking
mod Ranges
mod Walking
pub mod RunLaws
