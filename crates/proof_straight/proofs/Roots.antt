-- Calls that change roots.
pub mod OverRoots
pub mod Offers
pub mod Copying
pub mod Closing
