pub mod Acting
pub mod Completing
pub mod Keeping
pub mod Rewriting
pub mod Together
