-- What lies below this crate, named through the nearest crates alone: crates.txt lists only these, since the toolchain goes along each of its paths.
pub use Rattle.ctrie_commands.specs.Beneath.history_commands as history_commands
pub use Rattle.ctrie_commands.specs.Beneath.script_commands as script_commands
pub use Rattle.ctrie_commands.specs.Beneath.order_search as order_search
