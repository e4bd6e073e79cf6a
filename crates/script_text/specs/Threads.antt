-- Scripts for threads: lines `do` and `sweep` alone, with one actor to spare.
pub mod Lines
pub mod Reading
pub mod Grammar
