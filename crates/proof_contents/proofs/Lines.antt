-- What the lines of each program know of the nodes that they have seen and made, and so answer.
pub mod Readers
pub mod Updates
pub mod Key
pub mod Build
pub mod Repair
pub mod Answers
pub mod Walk
