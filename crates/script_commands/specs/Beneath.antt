-- What lies below this crate, named through the nearest crates alone: crates.txt lists only these, since the toolchain goes along each of its paths.
pub use Rattle.step_machine.specs.Beneath.machine_model as machine_model
pub use Rattle.step_machine.specs.Beneath.machine_core as machine_core
pub use Rattle.step_machine.specs.Beneath.slot_arena as slot_arena
pub use Rattle.step_machine.specs.Beneath.proof_generations as proof_generations
pub use Rattle.step_machine.specs.Beneath.proof_order as proof_order
pub use Rattle.step_machine.specs.Beneath.proof_obstruction_free as proof_obstruction_free
pub use Rattle.step_machine.specs.Beneath.proof_runs as proof_runs
pub use Rattle.history_text as history_text
pub use Rattle.script_text as script_text
pub use Rattle.history_commands as history_commands
pub use Rattle.history_commands.specs.Beneath.order_search as order_search
