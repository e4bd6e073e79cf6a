-- What lies below this crate, for those above it.
pub use Rattle.lock_free as lock_free
