pub mod Deciding
pub mod IdleProofs
pub mod Telling
pub mod UseAnswers
pub mod UseTexts
pub mod UsesComplete
pub mod UsesPrinted
