mod Building
pub mod Asked
