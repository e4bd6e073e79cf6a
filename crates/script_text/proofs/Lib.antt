pub mod FoundCommands
pub mod Found
pub mod AgainCommands
pub mod Only
pub mod SameKinds
pub mod Threads
pub mod Few
