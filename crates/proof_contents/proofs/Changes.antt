-- What an update of a key, a repair and a new root do to contents.
pub mod Updating
pub mod Repairs
pub mod Updates
pub mod Effects
pub mod Generations
pub mod Openings
