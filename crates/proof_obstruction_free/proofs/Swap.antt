-- SWAP alone: over within ten steps, thirteen from any line.
pub mod Steps
pub mod Lines
pub mod Found
pub mod Course
pub mod Deciding
pub mod Ends
pub mod Comes
pub mod Soon
