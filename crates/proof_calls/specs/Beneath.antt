-- What lies below this crate, named through the nearest crates alone: crates.txt lists only these, since the toolchain goes along each of its paths.
pub use Rattle.proof_updates.specs.Beneath.ctrie_base as ctrie_base
pub use Rattle.proof_updates.specs.Beneath.slot_arena as slot_arena
pub use Rattle.proof_updates.specs.Beneath.history as history
pub use Rattle.proof_updates.specs.Beneath.machine_model as machine_model
pub use Rattle.proof_updates.specs.Beneath.proof_order as proof_order
pub use Rattle.operate.specs.Beneath.contract as contract
pub use Rattle.operate.specs.Beneath.key_change as key_change
pub use Rattle.operate.specs.Beneath.gcas as gcas
