-- What the lines of each program want of the heap gives what their steps want, and the lines after them.
pub mod Read
pub mod Shared
pub mod Key
pub mod Repair
pub mod Others
pub mod Acts
pub mod Next
