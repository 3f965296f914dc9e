pub mod WrittenForms
pub mod KnownKeys
pub mod Laws
