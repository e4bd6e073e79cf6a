pub mod Telling
pub mod Seeking
