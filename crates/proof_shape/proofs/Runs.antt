-- Facts of any run: what is read and made, by whom, and since when.
pub mod EachAt
pub mod Nodes
pub mod RunOf
pub mod Began
pub mod Seen
pub mod Levels
pub mod Takers
pub mod Entries
pub mod MadeNodes
pub mod NewNodes
