pub mod Laws
mod Equal
mod Around
mod Runs
mod Nested
mod Reading
mod Readings
mod ReadBack
mod Hex
