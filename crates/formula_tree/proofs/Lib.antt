mod AnswerLists
pub mod FormulaWalks
mod Keeping
pub mod Laws
mod Looking
mod Running
mod TreeLists
