mod Choosing
mod Files
mod FormsOfSets
mod FormsOfValues
pub mod Laws
mod Lists
mod Numbering
mod OperatorNaming
mod OperatorRows
mod Naming
mod Patterns
mod Roots
mod Sound
mod SoundConditions
