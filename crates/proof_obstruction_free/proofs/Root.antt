-- ROOT and COMPLETE alone.
pub mod Words
pub mod Lines
pub mod Plain
pub mod Ends
pub mod Machines
