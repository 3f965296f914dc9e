pub mod Laws
mod Meets
mod Floors
mod NumberPoints
mod AddressPoints
mod BytePoints
mod Points
mod Pushing
mod SameTests
