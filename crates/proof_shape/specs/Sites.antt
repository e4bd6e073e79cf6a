-- The level of each node and the part of a hash that leads to it, for life; of nodes, lines and runs.
pub mod Nodes
pub mod Lines
pub mod At
