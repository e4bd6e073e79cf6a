-- What lies below this crate, named through the nearest crates alone: crates.txt lists only these, since the toolchain goes along each of its paths.
pub use Rattle.proof_linearizable as proof_linearizable
pub use Rattle.proof_linearizable.specs.Beneath.ctrie_base as ctrie_base
pub use Rattle.proof_linearizable.specs.Beneath.places as places
pub use Rattle.proof_linearizable.specs.Beneath.history as history
pub use Rattle.proof_linearizable.specs.Beneath.machine_model as machine_model
pub use Rattle.proof_linearizable.specs.Beneath.proof_memory as proof_memory
pub use Rattle.proof_linearizable.specs.Beneath.proof_order as proof_order
