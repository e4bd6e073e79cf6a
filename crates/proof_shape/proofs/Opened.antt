-- What may be read: what isn't open to READs keeps its main node.
pub mod Lines
pub mod Later
pub mod Steps
pub mod Mains
