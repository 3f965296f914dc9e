mod Accounts
mod Apart
pub mod AsciiTexts
mod Entries
mod Items
pub mod Laws
mod Quantified
mod Requiring
mod Meets
mod Valued
