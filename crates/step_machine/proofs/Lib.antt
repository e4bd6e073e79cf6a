pub mod Bounds
pub mod Asked
pub mod Steps
pub mod Denials
pub mod Feeding
pub mod Recording
pub mod Placing
pub mod Looking
