pub mod Beneath
pub mod Working
pub mod Threads
