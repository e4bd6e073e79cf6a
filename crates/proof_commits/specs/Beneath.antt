-- What lies below this crate, named through the nearest crates alone: crates.txt lists only these, since the toolchain goes along each of its paths.
pub use Rattle.proof_memory as proof_memory
pub use Rattle.proof_memory.specs.Beneath.slot_arena as slot_arena
pub use Rattle.proof_memory.specs.Beneath.epochs as epochs
pub use Rattle.proof_memory.specs.Beneath.history as history
pub use Rattle.proof_memory.specs.Beneath.machine_model as machine_model
