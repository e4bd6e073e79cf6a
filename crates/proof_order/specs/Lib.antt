pub mod Beneath
pub mod Vocabulary
pub mod Facts
pub mod Laws
pub mod Openings
pub mod Phases
pub mod Times
pub mod Running
