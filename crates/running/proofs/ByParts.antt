-- The state after a step of an operation that isn't its end, part by part.
use Rattle.std.specs.Prelude.{◌≡◌, ℕ}
use Rattle.running.specs.Vocabulary.{Action, acted, State, acted_heap, Table, acted_table, drawn_by, with_generation}
use Rattle.running.specs.Beneath.machine_model.proofs.Actors.{acted_actors, after_marks, marks_of}
use Rattle.running.specs.Beneath.machine_model.proofs.Frames.{IsFramed, acted_framed}
use Rattle.running.specs.Beneath.rdcss_root.proofs.Acting.{acts_on_table}
use Rattle.snapshot.proofs.Drawing.{draws_generations}

-- what an action on this handle makes of a state
pub record ActsBy (before : State) (handle : ℕ) (action : Action) (after : State) : Type 0 where
  pub heap : after.heap ≡ acted_heap before.heap (with_generation before.generations action)
  pub generations : after.generations ≡ drawn_by before.heap before.generations action
  pub roots : (table : Table) (actor : ℕ) → table.roots ≡ before.roots → after.roots ≡ (acted_table table handle actor action).roots
  pub actors : after.actors ≡ after_marks (marks_of before handle action) before.actors
  pub framed : IsFramed before after

pub acts_by : (state : State) (handle : ℕ) (action : Action) → ActsBy state handle action (acted state handle action)
acts_by state handle action = record {
  heap = (draws_generations state handle action).0;
  generations = (draws_generations state handle action).1;
  roots = λ table actor is. acts_on_table state table handle actor action is;
  actors = acted_actors state handle action;
  framed = acted_framed state handle action;
}
