pub mod NewAccess
pub mod NewAccessChecked
pub mod NewAccessComplete
pub mod NewAccessPrinted
