-- RENEW alone.
pub mod Nodes
pub mod Calm
pub mod Lines
pub mod Comes
pub mod On
