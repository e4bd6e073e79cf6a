-- What lies below this crate, named through the nearest crates alone: crates.txt lists only these, since the toolchain goes along each of its paths.
pub use Rattle.gcas as gcas
pub use Rattle.gcas.specs.Beneath.machine_model as machine_model
pub use Rattle.gcas.specs.Beneath.history as history
pub use Rattle.gcas.specs.Beneath.ctrie_base as ctrie_base
pub use Rattle.gcas.specs.Beneath.slot_arena as slot_arena
pub use Rattle.gcas.specs.Beneath.epochs as epochs
pub use Rattle.nodes as nodes
