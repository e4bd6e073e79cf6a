-- What a padded state has, and does, like the state itself.
pub mod Lists
pub mod Heaps
pub mod Reads
pub mod Lines
pub mod Acts
pub mod Steps
pub mod Runs
