-- What lies below this crate, named through the nearest crates alone: crates.txt lists only these, since the toolchain goes along each of its paths.
pub use Rattle.running.specs.Beneath.operate as operate
pub use Rattle.running.specs.Beneath.snapshot as snapshot
pub use Rattle.running.specs.Beneath.root_asking as root_asking
pub use Rattle.running.specs.Beneath.rdcss_root as rdcss_root
pub use Rattle.running.specs.Beneath.gcas as gcas
pub use Rattle.proof_core.specs.Beneath.nodes as nodes
pub use Rattle.proof_core.specs.Beneath.proof_contents as proof_contents
pub use Rattle.proof_core.specs.Beneath.proof_memory as proof_memory
pub use Rattle.proof_core.specs.Beneath.proof_commits as proof_commits
pub use Rattle.proof_core.specs.Beneath.proof_generations as proof_generations
pub use Rattle.running.specs.Beneath.trie_parts as trie_parts
pub use Rattle.proof_core.specs.Beneath.proof_shape as proof_shape
pub use Rattle.proof_core as proof_core
pub use Rattle.proof_core.specs.Beneath.proof_operations as proof_operations
pub use Rattle.proof_core.specs.Beneath.proof_straight as proof_straight
pub use Rattle.running.specs.Beneath.key_finding as key_finding
