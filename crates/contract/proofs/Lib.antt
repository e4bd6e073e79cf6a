pub mod Climbs
pub mod Looks
pub mod Made
