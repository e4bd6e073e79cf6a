-- What a change of a key makes and swaps in, and what is recorded of it.
pub mod Slots
pub mod Builds
pub mod SwapsIn
pub mod Recording
pub mod Changed
pub mod Changes
pub mod Parting
pub mod Contracting
pub mod Contracted
