-- What is sorted by key, for attributes in `src/`, which name lemmas of this crate alone.
pub use Rattle.machine_core.specs.Beneath.snapshot.proofs.Sorting.{Pair, compared, pairs_order, same_test, sorted_by_key}
