-- Where places come from, and how they are sorted.
pub mod Elements
pub mod Sorting
pub mod Origins
pub mod Members
pub mod Late
pub mod OnTime
pub mod Blocks
