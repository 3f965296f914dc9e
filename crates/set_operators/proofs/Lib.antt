mod Answering
mod Choosing
mod Counting
mod Falling
pub mod Laws
mod Lists
mod Membership
mod Numbering
mod Plains
mod Showing
mod Texts
