pub mod Beneath
pub mod Lines
pub mod Replies
