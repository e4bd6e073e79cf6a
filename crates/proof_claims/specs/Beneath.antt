-- What lies below this crate, named through the nearest crates alone: crates.txt lists only these, since the toolchain goes along each of its paths.
pub use Rattle.proof_reuse as proof_reuse
pub use Rattle.proof_reuse.specs.Beneath.slot_arena as slot_arena
pub use Rattle.proof_reuse.specs.Beneath.machine_model as machine_model
pub use Rattle.proof_reuse.specs.Beneath.proof_followed.specs.Beneath.history as history
pub use Rattle.proof_reuse.specs.Beneath.proof_followed as proof_followed
pub use Rattle.proof_reuse.specs.Beneath.proof_owned as proof_owned
pub use Rattle.proof_reuse.specs.Beneath.proof_memory as proof_memory
pub use Rattle.proof_reuse.specs.Beneath.proof_commits as proof_commits
pub use Rattle.proof_reuse.specs.Beneath.proof_garbage as proof_garbage
pub use Rattle.proof_reuse.specs.Beneath.proof_generations as proof_generations
pub use Rattle.proof_reuse.specs.Beneath.proof_followed.specs.Beneath.ctrie_base as ctrie_base
pub use Rattle.proof_fresh as proof_fresh
pub use Rattle.proof_reuse.specs.Beneath.proof_shape as proof_shape
pub use Rattle.proof_reuse.specs.Beneath.proof_shape.specs.Beneath.proof_contents as proof_contents
pub use Rattle.proof_reuse.specs.Beneath.proof_order as proof_order
