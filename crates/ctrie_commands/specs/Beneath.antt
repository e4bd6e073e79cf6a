-- What lies below this crate, named through the nearest crates alone: crates.txt lists only these, since the toolchain goes along each of its paths.
pub use Rattle.lock_runner.specs.Beneath.machine_model as machine_model
pub use Rattle.lock_runner.specs.Beneath.step_machine as step_machine
pub use Rattle.lock_runner.specs.Beneath.proof_runs as proof_runs
pub use Rattle.script_commands as script_commands
pub use Rattle.script_commands.specs.Beneath.history_commands as history_commands
pub use Rattle.script_commands.specs.Beneath.history_text as history_text
pub use Rattle.script_commands.specs.Beneath.script_text as script_text
pub use Rattle.script_commands.specs.Beneath.order_search as order_search
