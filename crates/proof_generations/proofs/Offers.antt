-- While an offer stands its operation runs, unmarked; and the same offer is found by whoever settles it.
pub mod Standing
pub mod Same
pub mod Marks
pub mod Swaps
