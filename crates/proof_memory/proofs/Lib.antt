-- What to cite from above.
--
-- One state: IsSafe (Safety.States) is the invariant; `safe_at` (Safety.AtEachTime) gives it at each time of an IsRun, `safe_along` after each list of steps.
-- Its `heaped` says what is read from what is safe, `open_word` what stands in an open handle's root word; `step_claims` (Safety.Steps) what a step touches.
--
-- What lines take their references for (specs/Wants): `line_at`, `action_at`, `kind_at` (Safety.AtTimes) at a time of a run, `line_behind` behind a step,
-- `line_finds`, `action_finds` in a safe state. A claim is used by `safe_of`, `meets_of`, `all_of`, `fact_of`, `entry_of` (Claims.Uses), a READ's by
-- `read_claims` (Claims.Reads), and read out of a line's by its name: `main_claim`, `done_claim`, `past_place` .. (Claims.Named);
-- `node_found`, `main_found`, `prev_found` (Safety.AtTimes) lead from a look-up in the machine's heap to the heap that only grows.
--
-- The heap that only grows: `word_move` (Heap.Moves) says what the step at a time writes, tied to the action of the operation that takes it; `grown_stays`
-- that what was made stays, `not_yet_drawn` that what is drawn was never made, `used_before` that what is made and later in use is in use between. What stands
-- after a write, a taking or a freeing: Heap.Under.
--
-- What a step leaves safe: `step_carries` (Safety.Steps); of one operation's own step: `gone_carries`, `made_fresh`. An invariant of each operation over one
-- step: `each_after` (Safety.EachStep); over root words: `put_words`, `begin_words` (Heap.RootWords).
--
-- Levels: `has_levels` (Levels.Runs) gives each reference of a run its level for life: 0 for a single, 1 for a root, one more for each indirection further
-- down. `has_shapes` (Levels.ShapeStates) says which nodes stand at which levels: tombs below the root's, lists below all levels of a hash, branches above
-- them. `shapes_at` has both at each time of a run, with one function of levels for all times; `along_levels` and `levels_at` carry more facts along a run.
--
-- The impossible line: `none_impossible` (Levels.ShapeStates), by `impossible_strange` (Levels.Impossible), `never_after` (Levels.Never) and `none_strange`.
pub mod Heap
pub mod Claims
pub mod Lines
pub mod Safety
pub mod Limbo
pub mod Levels
pub mod Holding
