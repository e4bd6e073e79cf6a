-- COPY, of a snapshot, a freeze or a clear, alone.
pub mod Lines
pub mod Fresh
pub mod Made
pub mod Reads
pub mod Calls
pub mod Ends
