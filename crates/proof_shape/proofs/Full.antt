-- No branch below a root is left empty or with one single alone.
pub mod Lines
pub mod Lists
pub mod Made
pub mod Acts
pub mod Runs
