pub mod Loops
mod Harmless
