-- Each step is one of the ways of its program: `edge` (Lines) of any line, beside it one of each program's.
pub mod Key
pub mod Roots
pub mod Repairs
pub mod Building
pub mod Walking
pub mod Lines
