-- What a step does to the heap, and to the heap that only grows.
pub mod Ones
pub mod Under
pub mod Effects
pub mod RootWords
pub mod Moves
pub mod Later
pub mod NoRef
