-- Limbo and the sweep: exact, recent, and down to what is reached.
pub mod Epochs
pub mod Exact
pub mod Zeros
pub mod Sweeps
pub mod Ranks
pub mod Measure
pub mod Nearing
