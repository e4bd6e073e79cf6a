-- What lies below this crate, for those above it.
pub use Rattle.order_search as order_search
