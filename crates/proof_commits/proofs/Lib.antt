-- What to cite from above.
--
-- What is known of a run: `known_run` (Known.Acts) where nothing is told of closings, `known_by` where roots are open when they are asked for
-- (`RootsAreOpen`, Known.Given). Its `acts` says what an operation's step finds and does in the heap that only grows, `stays` that no other step changes it.
--
-- The protocol: `protocol` (Words.Along) gives it of what is known; `sound_at` (Known.Sounds) what holds of all actors at a time: whose a fresh node is
-- (Known.Owners), where a node stood (`Stood`, Words.Stood) and what was given. `remembers_at` and `line_facts` (Words.Along) say what an operation's line
-- remembers; `effect` (Course.Finals) what a step does to words (Words.Effects), `link_stays` and `from_time` what lasts.
--
-- Main nodes: `main_step` (Course.Mains) says that one stays or changes by a commit; `none_final` and `moment_at` (Course.Finals, Course.Moments) what a
-- READ gives and from when on that was so; how a SWAP comes out: Course.Swaps. In the machine's own heap: `logical_standing` (Known.MainsInUse) and the laws
-- for lists of steps (Course.OfLists).
--
-- Rest, the one actor that takes steps from there, and the end of its operation: Resting.
--
-- Which lines read, and on which one ends: Lines.Reads (`only_end`, `read_counts`), Lines.Stages, `reads_stage` (Lines.Swap); `line_turn` (Lines.Turns) is the
-- turn that a line's step is.
pub mod Words
pub mod Known
pub mod Course
pub mod Lines
pub mod Resting
