pub mod Beneath
pub mod Vocabulary
pub mod Runs
pub mod Laws
pub mod Protocol
pub mod Stages
pub mod Words
pub mod Moments
