-- What lies below this crate, named through the nearest crates alone: crates.txt lists only these, since the toolchain goes along each of its paths.
pub use Rattle.contract as contract
pub use Rattle.root_asking.specs.Beneath.rdcss_root as rdcss_root
pub use Rattle.root_asking.specs.Beneath.gcas as gcas
pub use Rattle.root_asking.specs.Beneath.machine_model as machine_model
pub use Rattle.key_finding.specs.Beneath.key_change as key_change
pub use Rattle.key_finding as key_finding
pub use Rattle.contract.specs.Beneath.ctrie_base as ctrie_base
pub use Rattle.contract.specs.Beneath.slot_arena as slot_arena
pub use Rattle.contract.specs.Beneath.epochs as epochs
pub use Rattle.contract.specs.Beneath.history as history
pub use Rattle.contract.specs.Beneath.trie_parts as trie_parts
