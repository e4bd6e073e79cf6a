-- What to cite from above.
--
-- A step: `moves` and `moved` (Moves) give the kind of move that a taken step is; `limits_kept`, `steps_counted`, `begin_events` and IsFramed (Frames) what
-- no action touches; `begin_heap`, `aborted_heap`, `offered_heap`, `completed_heap` (HeapMoves) what leaves the heap alone. Who runs where: Actors (a begin,
-- a step, an end and marks, seen at one place of the list of actors); `of_running` (EachOperation) shows a fact of each running operation; `comes`, `follows`
-- (Fates) where the operation at a place comes from and what becomes of it, `place_of_actor` which place an actor has. `edge` (Edges.Lines) says which way a
-- line is left, beside it one lemma for each program.
--
-- A list of steps: `along` (Along) is the induction, `run-append` and `run_push` take runs apart, `limits_along` keeps limits; denied steps go by `run-taken`
-- (Taken). A run as states over time: `run_is` and `run_ends` (Times) lead to it from a list of steps; `at_each_time` and `along_run` are its inductions,
-- `steps_at` says what number a step has, `step_leads` (Numbered) which move it is.
--
-- The heap: `standing_parts`, `node_standing`, `prev_standing` (Grown) say what stands under a reference; `grown_in_use`, `node_grown`, `prev_grown` that the
-- heap that only grows agrees. Slots in use and free: Slots, InUse, Rest. Look-ups into lists: Found. Why a step is denied or an operation refused: Refusals,
-- Refused. What a read-only handle's lines are: Readers. Small facts of numbers, tests and words: Basics.
pub mod Taken
pub mod Moves
pub mod Along
pub mod Found
pub mod Frames
pub mod Actors
pub mod EachOperation
pub mod Refusals
pub mod Refused
pub mod Readers
pub mod HeapMoves
pub mod Rest
pub mod InUse
pub mod Slots
pub mod Noted
pub mod Times
pub mod Recorded
pub mod Lasting
pub mod Notes
pub mod Alike
pub mod Grown
pub mod Numbered
pub mod Basics
pub mod Taking
pub mod Fates
pub mod Numbers
pub mod Embedding
mod OneWord
pub mod Looks
pub mod LooksOn
pub mod LooksAfter
pub mod GivingUp
pub mod Edges
