-- Each reference has a level for life; which nodes stand at which levels; so no operation comes to the impossible line.
pub mod Impossible
pub mod Never
pub mod Steps
pub mod Next
pub mod States
pub mod Runs
pub mod Shapes
pub mod ShapeStates
pub mod Paths
