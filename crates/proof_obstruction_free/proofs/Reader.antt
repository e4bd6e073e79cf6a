-- A call on one key of a read-only handle, alone.
pub mod Lines
pub mod Calls
pub mod Ends
