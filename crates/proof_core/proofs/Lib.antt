-- What to cite from above.
--
-- Of a state of a run: its numbers are bounded (Bounded), the next action's claims hold and there is room for it (Given), what lines and actions count on (Claims), what is known of
-- handle numbers (Numbers, Numbering, Reserved). Of a heap: what holds below a root (Tries), how a call that runs alone changes it (Drafts), what the settling takes (Crossing).
-- Of pairs: how they are reached (Gathering, Counted, Picked, Levels), sorted (Sorted, Filtered, Firsts), found (Found), how many they are (FewPairs), in which two maps differ
-- (Compared), that a walk of a trie meets them in its own order, and where one goes on behind a cursor (Scanning),
-- what a scan finds on its way (Scanned). Of lists: Mapped, parts that are taken of them (Taking).
pub mod Mapped
pub mod Bounded
pub mod Claims
pub mod Given
pub mod Numbers
pub mod Numbering
pub mod Reserved
pub mod Tries
pub mod Drafts
pub mod Crossing
pub mod Gathering
pub mod Counted
pub mod Sorted
pub mod Picked
pub mod Levels
pub mod Filtered
pub mod Firsts
pub mod Taking
pub mod Scanned
pub mod Found
pub mod FewPairs
pub mod Compared
pub mod Scanning
