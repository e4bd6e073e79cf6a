-- What lies below this crate, named through the nearest crates alone: crates.txt lists only these, since the toolchain goes along each of its paths.
pub use Rattle.proof_garbage as proof_garbage
pub use Rattle.proof_order as proof_order
pub use Rattle.proof_shape as proof_shape
pub use Rattle.proof_order.specs.Beneath.ctrie_base as ctrie_base
pub use Rattle.proof_order.specs.Beneath.slot_arena as slot_arena
pub use Rattle.proof_order.specs.Beneath.epochs as epochs
pub use Rattle.proof_order.specs.Beneath.history as history
pub use Rattle.proof_order.specs.Beneath.machine_model as machine_model
pub use Rattle.proof_order.specs.Beneath.proof_memory as proof_memory
pub use Rattle.proof_order.specs.Beneath.proof_commits as proof_commits
pub use Rattle.proof_order.specs.Beneath.proof_generations as proof_generations
