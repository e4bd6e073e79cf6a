pub mod Closed
pub mod Committed
pub mod Published
pub mod Entered
pub mod Chronicled
