-- What a seat does under the rule of shadows: `Shadowed` lifts what a seat may do under the rule itself, `Falls` and `Clears` let glances fall, and the rest takes one
-- glance from its begin to its end.
pub mod Shadowed
pub mod Falls
pub mod Steps
pub mod Begins
pub mod Lines
pub mod Loads
pub mod Together
pub mod Gets
pub mod Ends
pub mod Asks
pub mod Starts
pub mod Turns
pub mod Clears
pub mod Opened
