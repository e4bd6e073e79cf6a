pub mod Beneath
pub mod Built
pub mod Lines
pub mod Steps
