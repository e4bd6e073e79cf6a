-- CLIMB alone.
pub mod Ends
pub mod Lines
pub mod On
