pub mod Counts
pub mod Failures
pub mod Beginnings
