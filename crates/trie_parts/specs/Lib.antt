pub mod Beneath
pub mod Holding
pub mod Here
pub mod Steps
pub mod Tasks
