mod Wordings
mod Heading
mod Making
mod Judging
mod Certifying
pub mod Laws
mod Unbroken
mod Heads
mod Acceptance
