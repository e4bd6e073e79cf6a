-- What to cite from above: the laws, and `of_no_walk` (NoWalks), that calls which walk over no pairs are those of the laws.
--
-- Where to begin: Lone and Stands (specs/Alone) say what an operation alone is and on which line it stands, Within (specs/Alone, Step.Within) that something
-- holds after so many steps at most. Stepping (specs/Stepping, shown by Step.Step) is what one step of it leaves; Machines (specs/Machines, shown by
-- Root.Machines) the bounds of READ, SWAP and ROOT on which all other programs stand. `own_run` (Step.Next) is the run with what just its steps record: what
-- proof_commits says of a step that records a commit is used of that one. A weight (specs/Weighing, Weights.Offers) is what others left undecided.
--
-- The programs: X.Lines says to which line each line leads, X.Comes and X.Ends within how many steps it is over. `alone_it_ends` and
-- `each_step_leads_to_its_end` are put together in Inherited.EndsAll from Inherited.Whole.
pub mod Step
pub mod Swap
pub mod Root
pub mod Ends
pub mod Weights
pub mod Read
pub mod Renew
pub mod Clean
pub mod Pass
pub mod Build
pub mod Climb
pub mod Copy
pub mod Reader
pub mod Inherited
pub mod Slots
pub mod Making
pub mod Programs
pub mod NoWalks
