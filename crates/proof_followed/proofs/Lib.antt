-- What to cite from above: `followed_used` (InUse) that what is followed is in use; `followed_so`, `counting_followed` (Step) and `other_followed` (Others) what is followed after a step;
-- `sealed_along` (Sealed) that nobody else comes to what a copy made, `never_brought` (NeverBrought) that what roots followed once isn't such, `dies` (Grace) that it dies.
pub mod Asked
pub mod Meeting
pub mod Next
pub mod Acts
pub mod InUse
pub mod Live
pub mod RootWords
pub mod Hands
pub mod Step
pub mod Others
pub mod Stays
pub mod Links
pub mod FreshRoots
pub mod Cleared
pub mod Apart
pub mod LastStep
pub mod Bringing
pub mod Carried
pub mod Grace
pub mod Brought
pub mod Sealed
pub mod NeverBrought
