pub mod Laws
mod Comparing
pub mod Entries
mod Files
mod Finding
mod Fitting
mod Further
mod Inferring
mod Keys
mod KnownRuns
pub mod Listed
mod OfSets
mod Passing
mod PutRules
mod Putting
mod RuleSound
mod SameRules
