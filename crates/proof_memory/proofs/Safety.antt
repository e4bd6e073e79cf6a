-- The invariant, one state at a time: every reference that is held or stands is in use, and of the kind it is taken for.
pub mod Guards
pub mod EachStep
pub mod Base
pub mod Started
pub mod States
pub mod Steps
pub mod First
pub mod AtEachTime
pub mod Held
pub mod AtTimes
pub mod Standing
