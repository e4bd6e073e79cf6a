-- What to cite from above.
--
-- Nodes as maps: a law of each builder is in Nodes.Builders and Nodes.Lists, what is beside a key's flag in Nodes.Beside; `differ`, `standing_at`, `flagged`
-- (Nodes.Branches) look into a branch by flags.
--
-- The trie of a run (specs/Runs): `counting_main-made`, `counting_main-unmade`, `counting_main-stays` (Values.Runs) say how main nodes are looked up over
-- time, `node_stays` and `indirection_stays` (Values.Started) that nodes stay; `assigned-last` and `found_below` (Values.Found) how a value is found,
-- `on-depth` and `path_lasts` (Values.Paths) that an indirection stays on a key's path; `map_of-same` (Values.Contents) when two contents are one.
--
-- What a step does: `update_acts` (Changes.Generations), `copy_opens`, `empty_opens` (Changes.Openings). What keeps shape: Shapes.Builders, Shapes.Lists;
-- `branch_shape`, `list_shape`, `tomb_shape` (Shapes.Nodes) read a node's shape off. The pairs that are reached: `content_is` (Pairs.Heap).
--
-- What lines know: `key_knows` (Lines.Key.Knows), `build_knows` (Lines.Build),
-- `renew_..` and `clean_..` (Lines.Repair) hand it on; `EndsRight` (Lines.Key.Ends) and Lines.Answers say what is answered, Lines.Readers what a reader finds out.
pub mod Nodes
pub mod Values
pub mod Shapes
pub mod Changes
pub mod Lines
pub mod Pairs
