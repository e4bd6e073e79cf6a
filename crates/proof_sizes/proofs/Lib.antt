-- What to cite from above: the laws (OfCalls). Of one step of any run, whoever takes it: `steps_grow_little`, `opened_no_larger`, `sweep_keeps` (Steps).
--
-- The rest is what leads there: weights of the nodes that are reached in a trie (Weights), that none is met twice (Once), what another main node adds (Growing),
-- a repair's and an update's (Changing), the nodes of handles in the trie of a run (Shown), as slots (Times, Slots), where nothing runs (AtRest) and where the map is empty (Empty), and the steps
-- of a call alone: where it adds a key (Adding), to which handle (Others), and what comes of all of them (Alone).
pub mod Weights
pub mod Once
pub mod Growing
pub mod Changing
pub mod Shown
pub mod Times
pub mod AtRest
pub mod Slots
pub mod Empty
pub mod Steps
pub mod Adding
pub mod Others
pub mod Alone
pub mod OfCalls
