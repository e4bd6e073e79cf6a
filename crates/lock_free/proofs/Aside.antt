-- What is free for a seat is put into a cell, or is loose; or it comes from there.
pub mod PoolKept
pub mod CellKept
pub mod CellSteps
pub mod LooseKept
pub mod LooseSteps
