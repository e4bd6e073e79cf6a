-- What lies below this crate, named through the nearest crates alone: crates.txt lists only these, since the toolchain goes along each of its paths.
pub use Rattle.map_worlds.specs.Beneath.proof_linearizable as proof_linearizable
pub use Rattle.map_worlds.specs.Beneath.ctrie_base as ctrie_base
pub use Rattle.map_worlds.specs.Beneath.history as history
pub use Rattle.map_worlds.specs.Beneath.machine_model as machine_model
pub use Rattle.map_worlds.specs.Beneath.proof_memory as proof_memory
pub use Rattle.map_worlds.specs.Beneath.proof_order as proof_order
pub use Rattle.proof_obstruction_free.specs.Beneath.slot_arena as slot_arena
pub use Rattle.proof_obstruction_free.specs.Beneath.epochs as epochs
pub use Rattle.proof_obstruction_free.specs.Beneath.proof_commits as proof_commits
pub use Rattle.proof_obstruction_free.specs.Beneath.proof_generations as proof_generations
pub use Rattle.proof_obstruction_free.specs.Beneath.proof_shape as proof_shape
pub use Rattle.proof_obstruction_free as proof_obstruction_free
pub use Rattle.map_worlds as map_worlds
pub use Rattle.proof_straight as proof_straight
