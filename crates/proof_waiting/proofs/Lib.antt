mod Actions
pub mod Operations
