-- Each line of each program is a turn of the protocol, and what it remembers.
pub mod Stages
pub mod Read
pub mod Remembers
pub mod Keeps
pub mod Reads
pub mod Turns
pub mod Each
pub mod Swap
pub mod Resting
