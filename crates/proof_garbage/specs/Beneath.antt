-- What lies below this crate, named through the nearest crate alone: crates.txt lists only this one, since the toolchain goes along each of its paths.
pub use Rattle.proof_generations as proof_generations
pub use Rattle.proof_generations.specs.Beneath.ctrie_base as ctrie_base
pub use Rattle.proof_generations.specs.Beneath.slot_arena as slot_arena
pub use Rattle.proof_generations.specs.Beneath.epochs as epochs
pub use Rattle.proof_generations.specs.Beneath.history as history
pub use Rattle.proof_generations.specs.Beneath.machine_model as machine_model
pub use Rattle.proof_generations.specs.Beneath.proof_memory as proof_memory
pub use Rattle.proof_generations.specs.Beneath.proof_commits as proof_commits
