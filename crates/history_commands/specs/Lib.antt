pub mod Faults
pub mod Written
pub mod Verdicts
pub mod Explanations
pub mod Pictures
pub mod Orders
pub mod Beneath
