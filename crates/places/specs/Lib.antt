pub mod Places
pub mod Segments
