mod Answering
mod Determined
mod Disjoint
mod Equal
mod Gathering
mod Keeping
pub mod Laws
mod Listing
mod Making
mod Ordering
mod Standing
mod Stepping
mod Suiting
mod Telling
