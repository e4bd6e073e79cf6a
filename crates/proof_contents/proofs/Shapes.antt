-- The shape of nodes, and that the builders keep it.
pub mod Nodes
pub mod Builders
pub mod Lists
