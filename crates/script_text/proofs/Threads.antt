-- Scripts for threads are scripts, and are read again.
pub mod Found
pub mod Again
