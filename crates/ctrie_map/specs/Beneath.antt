-- What lies below this crate, named through the nearest crates alone: crates.txt lists only these, since the toolchain goes along each of its paths.
pub use Rattle.proof_sizes.specs.Beneath.proof_alone as proof_alone
pub use Rattle.proof_sizes.specs.Beneath.proof_obstruction_free as proof_obstruction_free
pub use Rattle.proof_sizes.specs.Beneath.proof_memory as proof_memory
pub use Rattle.proof_sizes.specs.Beneath.proof_order as proof_order
pub use Rattle.proof_sizes.specs.Beneath.proof_shape as proof_shape
pub use Rattle.machine_core.specs.Beneath.proof_contents as proof_contents
pub use Rattle.proof_sizes.specs.Beneath.slot_arena as slot_arena
pub use Rattle.proof_sizes.specs.Beneath.proof_alone.specs.Beneath.map_worlds as map_worlds
pub use Rattle.proof_sizes.specs.Beneath.proof_straight as proof_straight
pub use Rattle.machine_core as machine_core
pub use Rattle.machine_core.specs.Beneath.proof_core as proof_core
