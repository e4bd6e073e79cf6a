-- What to cite from above.
--
-- Over a run whose keys have 64 bits: `is_trie`, `steps_keep`, `updates_follow`, `paths_lie`, `keys_look`, `replies_right` (Tries.OfRuns). Seen from handles, for
-- each step after a list of steps: Handles.OfLists.
pub mod Tries
pub mod Answers
pub mod Routes
pub mod Placed
pub mod Handles
