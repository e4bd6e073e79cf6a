pub mod Searching
pub mod Cells
pub mod Marks
pub mod Walks
pub mod States
pub mod Vocabulary
