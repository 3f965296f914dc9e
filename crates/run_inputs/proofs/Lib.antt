mod Chains
pub mod FileLaws
pub mod Laws
