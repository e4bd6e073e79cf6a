pub mod Known
pub mod Explained
pub mod Appended
