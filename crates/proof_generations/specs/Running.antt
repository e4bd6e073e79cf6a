-- Which operation an actor runs, as machine_model says it.
pub use Rattle.proof_generations.specs.Beneath.machine_model.specs.States.{Runs}
