pub mod Shown
pub mod First
pub mod Counted
