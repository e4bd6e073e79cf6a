-- A walk through a copy, from its begin to its end.
pub mod Whole
pub mod Roots
pub mod Lines
pub mod Mains
pub mod Takes
pub mod Enters
pub mod Nexts
pub mod Begins
