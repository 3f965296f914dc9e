pub mod RequestTexts
pub mod RequestChecks
pub mod RequestShapes
pub mod RequestKeys
pub mod RequestFiles
pub mod Laws
