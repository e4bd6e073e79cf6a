-- The paths of operations keep to their keys' paths.
pub mod Known
pub mod Key
pub mod Lines
pub mod Times
pub mod Each
pub mod Paths
