-- What to cite from above.
--
-- The laws: Way.Unchanged, Change.Changes, Change.Parting, Change.Contracted, Roots.Copying, Roots.Closing, Renewal.Renews. What leads to them from a run:
-- `limbo_up_to_date`, `free_slots_empty` (Runs.Resting); where no record is kept `first_is_record` (Change.Recording) gives one that fits. What leads from them
-- to a run: `comes_by_run`, and to a call without a record: `comes_without_record` (Runs.ByRuns).
--
-- Limbo that was brought up to date stays so: `settled_once` (Steps.Settled). What a node that is made, swapped in and committed leaves of a heap: Change.Slots.
pub mod Steps
pub mod Way
pub mod Change
pub mod Roots
pub mod Renewal
pub mod Runs
