-- The replay of the order, by what a world shows of one handle and key.
pub mod Replay
pub mod Acts
pub mod Changes
pub mod EachStep
pub mod Handles
pub mod Standing
pub mod Steps
pub mod Closed
pub mod Sound
pub mod Timeline
pub mod Openings
pub mod Ends
pub mod Explained
pub mod Unconditional
