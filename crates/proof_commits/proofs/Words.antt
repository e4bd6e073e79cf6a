-- Words over time and the turns by which actors read and write them, apart from the machine; and that a run's words are such.
pub mod Stood
pub mod Effects
pub mod OfRuns
pub mod First
pub mod Along
