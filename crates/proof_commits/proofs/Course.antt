-- The course of words: what is final, how logical main nodes change, what a READ gives and how a SWAP comes out.
pub mod Finals
pub mod Mains
pub mod Closings
pub mod Readings
pub mod Swaps
pub mod Moments
pub mod Changers
pub mod OfLists
pub mod AlongLists
pub mod Unmet
