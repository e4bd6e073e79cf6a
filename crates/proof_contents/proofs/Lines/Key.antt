-- The lines of KEY: what they know, and how they end.
pub mod Knows
pub mod Ends
