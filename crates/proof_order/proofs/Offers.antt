-- What the history says of offers that stand.
pub mod Words
pub mod Known
pub mod Standing
pub mod Honest
pub mod Carried
