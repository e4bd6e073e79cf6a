-- What is sorted by key, for attributes in `src/`, which name lemmas of this crate alone.
pub use Rattle.shared_map.specs.Beneath.machine_core.specs.Beneath.snapshot.proofs.Sorting.{sorted_by_key}
