-- What lies below this crate, named through the nearest crates alone.
pub use Rattle.machine_model as machine_model
pub use Rattle.machine_model.specs.Beneath.history as history
pub use Rattle.machine_model.specs.Beneath.slot_arena as slot_arena
pub use Rattle.machine_model.specs.Beneath.ctrie_base as ctrie_base
pub use Rattle.machine_model.specs.Beneath.nodes as nodes
pub use Rattle.proof_slots as proof_slots
