pub mod Questions
pub mod Deciding
pub mod Outcomes
pub mod MadeStrata
