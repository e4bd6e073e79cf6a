pub mod Counting
pub mod Capped
pub mod Unmade
pub mod Insides
pub mod Handles
pub mod Ends
pub mod Coming
