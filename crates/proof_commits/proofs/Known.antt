-- What is known of a run for that: what each action finds and does in the heap that only grows, and whose a fresh node is.
pub mod Owners
pub mod Sounds
pub mod Given
pub mod StepsAt
pub mod Claims
pub mod Acts
pub mod MainsInUse
