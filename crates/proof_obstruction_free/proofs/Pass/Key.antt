-- The lines of KEY where its path ends, and what follows from there.
pub mod Lines
pub mod Stale
pub mod Fresh
