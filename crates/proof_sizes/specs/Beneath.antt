-- What lies below this crate, named through the nearest crate alone: crates.txt lists only this one, since the toolchain goes along each of its paths.
pub use Rattle.proof_alone as proof_alone
pub use Rattle.proof_alone.specs.Beneath.ctrie_base as ctrie_base
pub use Rattle.proof_alone.specs.Beneath.slot_arena as slot_arena
pub use Rattle.proof_alone.specs.Beneath.history as history
pub use Rattle.proof_alone.specs.Beneath.machine_model as machine_model
pub use Rattle.proof_alone.specs.Beneath.proof_linearizable.specs.Beneath.proof_contents as proof_contents
pub use Rattle.proof_alone.specs.Beneath.proof_memory as proof_memory
pub use Rattle.proof_alone.specs.Beneath.proof_commits as proof_commits
pub use Rattle.proof_alone.specs.Beneath.proof_generations as proof_generations
pub use Rattle.proof_alone.specs.Beneath.proof_order as proof_order
pub use Rattle.proof_alone.specs.Beneath.proof_shape as proof_shape
pub use Rattle.proof_alone.specs.Beneath.proof_linearizable as proof_linearizable
pub use Rattle.proof_alone.specs.Beneath.proof_linearizable.specs.Beneath.proof_updates as proof_updates
pub use Rattle.proof_alone.specs.Beneath.proof_obstruction_free as proof_obstruction_free
pub use Rattle.proof_alone.specs.Beneath.proof_straight as proof_straight
