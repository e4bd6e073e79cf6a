pub mod Fits
pub mod SameTests
pub mod Sorting
