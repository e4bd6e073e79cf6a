-- What to cite from above. Each is of a run: limits, states, last and IsRun.
--
-- What lines know (specs/Lines/Knowing): `knows_at` (Lines.Knows) of a key's place and of a change that is built, `repairs_at` (Lines.RepairsAt) of the entries
-- that RENEW and CLEAN have done, `climbs_at` (Lines.ClimbsAt) of the tomb that CLIMB comes from; `places_at` (Lines.Places) where a line swaps, and that it has
-- a generation; `settled_at` which calls come to which lines. What a READ gave, when it began and from when on that was so (specs/Lines/Given): `gave_now`,
-- `reading_at` (Runs.Began), `was_given` (Commits.Was); a READ of RENEW or CLEAN has `GaveBelow`, with its last step and its try besides, from `repairs_at`;
-- what that gave of an older generation counts for good, by `given_below` (Commits.Was).
--
-- Who commits what (specs/Lines/Commits): `fresh_commits_at` (Held.Commits), by the main nodes that fresh indirections have at the commit; `commits_at`
-- (Commits.At), by those with which they were made.
--
-- What isn't open to READs keeps its main node: `closed_keeps` (Opened.Mains). What operations made and nobody else can come to read: `holds_at` (Held.At).
--
-- Of any run: `run_of`, `sites_at` (Runs.RunOf) and `levels_along` (Runs.Levels) lead to facts that are shown after lists of steps; `each_at` (Runs.EachAt) and
-- `each_with` (Runs.Takers) are inductions over running operations; `entries_made` (Runs.MadeNodes): what a node names is made before it; `nodes_stay`,
-- `node_known`, `link_known` (Runs.Nodes): a node that was seen is that of the end.
--
-- Sites: `lines_have_sites`, `ways_have_sites`, `updates_have_sites` (Sites.At) at each time of a run, `grown_sites` (Sites.Grown) of all nodes ever made;
-- `takes_steps` (Sites.Stepped) and `keys_fit` (Sites.Fixed) lead there from a list of steps. The shape: `runs_have_shape` (Shaped.Trie), and without what RENEW
-- and CLEAN know `bare_runs_have_shape`.
pub mod Runs
pub mod Lines
pub mod Commits
pub mod Opened
pub mod Held
pub mod Sites
pub mod Shaped
pub mod Full
