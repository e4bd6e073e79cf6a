-- What the lines of each program know, at each time of a run; and where they lead.
pub mod Leads
pub mod Placed
pub mod Swap
pub mod Places
pub mod Key
pub mod Build
pub mod Knows
pub mod RepairMore
pub mod Repair
pub mod RepairsAt
pub mod Climb
pub mod Grounded
pub mod ClimbsAt
