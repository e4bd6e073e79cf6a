pub mod Beneath
pub mod Outcomes
