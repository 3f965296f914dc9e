mod Asking
mod Collecting
mod Covering
mod Distinct
mod Each
mod Entries
mod Equal
mod Finishing
mod Grouping
mod Items
pub mod Laws
mod Meanings
mod Members
pub mod OneNumbering
mod Operating
mod Origins
mod Ranges
mod Single
mod Standing
mod Steps
mod Suiting
mod Within
