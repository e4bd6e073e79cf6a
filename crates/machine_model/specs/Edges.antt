-- The ways from each line of a running operation to the next one: a type for each program, a constructor for each way, with what was seen there.
pub mod Key
pub mod Roots
pub mod Repairs
pub mod Building
pub mod Walking
pub mod Lines
