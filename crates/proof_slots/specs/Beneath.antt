-- What lies below this crate, named through the nearest crates alone: crates.txt lists only these, since the toolchain goes along each of its paths.
pub use Rattle.machine_model.specs.Beneath.ctrie_base as ctrie_base
pub use Rattle.machine_model.specs.Beneath.slot_arena as slot_arena
pub use Rattle.machine_model.specs.Beneath.epochs as epochs
pub use Rattle.machine_model.specs.Beneath.history as history
