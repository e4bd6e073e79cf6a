pub mod Working
pub mod Placed
pub mod Lateness
pub mod Drawn
pub mod Each
