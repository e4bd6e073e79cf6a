-- What to cite from above. Of a run: `own_or` (Shared) that a main node is own or shared, `theirs` (Theirs) that no step brings an own one elsewhere, `unopened_at` (Unopened) that
-- nodes which come into one indirection alone stand in no other one that roots lead to, `linked_place` (Linked) where roots lead; `swaps_from` (SinglesFrom) where each entry of a fresh
-- main node comes from, `counting_step` (CountingSteps) what a step makes of a main node that counts.
pub mod Earlier
pub mod Brought
pub mod AtFirst
pub mod Theirs
pub mod Shared
pub mod Makers
pub mod Building
pub mod LinksMade
pub mod Opens
pub mod Reading
pub mod FreshRoots
pub mod Unopened
pub mod OneMain
pub mod MainsInUse
pub mod Linked
pub mod Tombs
pub mod NewEntries
pub mod OverNew
pub mod CameIn
pub mod TakenOut
pub mod TakenOutOfLists
pub mod SinglesNew
pub mod SinglesMade
pub mod SinglesFrom
pub mod CountingSteps
pub mod SinglesCalm
pub mod SinglesSteps
pub mod SinglesRoots
pub mod SinglesAt
pub mod Dropped
pub mod OnceThere
pub mod DroppedOfLists
pub mod Marked
pub mod OfLists
