-- What lies below this crate, named through the nearest crates alone: crates.txt lists only these, since the toolchain goes along each of its paths.
pub use Rattle.history as history
pub use Rattle.places as places
pub use Rattle.nodes as nodes
pub use Rattle.epochs as epochs
pub use Rattle.nodes.specs.Beneath.slot_arena as slot_arena
pub use Rattle.nodes.specs.Beneath.ctrie_base as ctrie_base
