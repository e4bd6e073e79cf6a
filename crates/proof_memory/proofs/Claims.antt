-- Claims on references: how one is used, what they give of nodes and of READs, and what is made of claimed references.
pub mod Uses
pub mod Nodes
pub mod Named
pub mod Made
pub mod Reads
