-- What lies below this crate, named through the nearest crates alone: crates.txt lists only these, since the toolchain goes along each of its paths.
pub use Rattle.proof_shape.specs.Beneath.slot_arena as slot_arena
pub use Rattle.proof_shape.specs.Beneath.nodes as nodes
pub use Rattle.proof_shape.specs.Beneath.history as history
pub use Rattle.proof_shape.specs.Beneath.machine_model as machine_model
pub use Rattle.proof_shape.specs.Beneath.proof_contents as proof_contents
pub use Rattle.proof_shape.specs.Beneath.proof_memory as proof_memory
pub use Rattle.proof_shape.specs.Beneath.proof_commits as proof_commits
pub use Rattle.proof_garbage.specs.Beneath.proof_generations as proof_generations
