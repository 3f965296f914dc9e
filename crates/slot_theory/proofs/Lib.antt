mod Accepting
mod Accounts
mod Alike
mod Answering
mod Contradicted
mod Impossible
mod Keyed
pub mod Laws
mod Naming
mod Products
mod Rising
mod Sampling
mod Shrinking
mod Stating
mod Wanting
mod Wording
