pub mod Cited
mod Falsifying
mod Refuting
mod Satisfying
mod Stepping
