pub mod Words
pub mod Texts
pub mod Reading
pub mod Views
