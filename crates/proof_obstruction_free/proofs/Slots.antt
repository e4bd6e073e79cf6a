-- How many slots an operation takes where its actor alone takes steps.
pub mod Free
pub mod Few
pub mod Tries
pub mod AtBegin
