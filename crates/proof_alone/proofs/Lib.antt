-- What to cite from above.
--
-- Of states that runs lead to: `by_run`, `of_run`, `of_run_behind` (Runs), `of_run_on_its_way` (Going). A call that goes on alone has one way: `not_later`
-- (Going). The laws: Ending, Acting, Wanting, Sweeping.
--
-- The rest is what leads there: one step of a call (Steps), its steps as a run (Going), who runs (Resting), what is told (Telling), how far it is to the next slot that
-- the sweep frees (Freeing).
pub mod Runs
pub mod Steps
pub mod Going
pub mod Ending
pub mod Resting
pub mod Telling
pub mod Acting
pub mod Wanting
pub mod Freeing
pub mod Sweeping
