pub mod Laws
mod Equal
mod Standing
mod Numbers
mod Dates
mod Fractions
mod Steps
mod DecimalForms
mod RoundTrip
mod FieldForms
mod MomentForms
