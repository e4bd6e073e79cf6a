pub mod Beneath
pub mod Vocabulary
pub mod Orders
pub mod Machines
pub mod Runs
pub mod Laws
