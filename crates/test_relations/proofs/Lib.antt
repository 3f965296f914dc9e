mod Asking
mod Fitting
mod Holding
mod Known
mod Nested
