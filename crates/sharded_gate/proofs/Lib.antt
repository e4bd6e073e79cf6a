mod Shares
mod Commits
mod Given
mod Turning
mod Reaching
mod Whole
mod Alone
pub mod Beginnings
mod Tables
pub mod Placing
