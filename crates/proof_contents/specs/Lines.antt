-- What lines know of nodes: on the way to a key and in a change (Changes), in a repair (Repairs).
pub mod Changes
pub mod Repairs
