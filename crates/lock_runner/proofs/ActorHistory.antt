-- What a history tells of one actor: how its account follows from the machine's steps.
pub mod Pushes
pub mod Turns
pub mod Sound
pub mod Told
pub mod Runs
pub mod Steps
pub mod Totals
pub mod Counted
