-- BUILD alone.
pub mod Comes
pub mod Steps
