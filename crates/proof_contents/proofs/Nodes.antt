-- Single nodes: what the builders make of a node's entries, as the finite map that is its content.
pub mod Branches
pub mod Changes
pub mod Lists
pub mod Tombs
pub mod Refilling
pub mod Chains
pub mod Beside
pub mod Maps
pub mod Builders
pub mod Partings
