pub mod Geometry
pub mod Escapes
pub mod Marks
pub mod Bars
pub mod Documents
pub mod Laws
