pub mod Comparing
pub mod Rising
pub mod Cuts
pub mod Kept
