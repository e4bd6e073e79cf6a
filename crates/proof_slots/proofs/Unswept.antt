-- Runs without steps of the sweep.
pub mod Shrinking
pub mod Orders
pub mod Kept
