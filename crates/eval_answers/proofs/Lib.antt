mod Evaluating
pub mod Laws
