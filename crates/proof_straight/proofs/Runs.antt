-- What leads from runs to calls that run alone, and back.
pub mod ByRuns
pub mod Resting
