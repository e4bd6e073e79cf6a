-- Which operations run after a step, by those that ran before it, as machine_model says it.
pub use Rattle.proof_generations.specs.Beneath.machine_model.proofs.Fates.{place_of_actor, at_place, one_at, write_cases, begin_not_running, Follows, rests, steps, ends, gives_up, follows}
pub use Rattle.proof_generations.specs.Beneath.machine_model.proofs.Fates.{Comes, began, rested, went, gave, comes, marks_length, actors_length}
