-- One step of a call that runs alone, what is recorded of it, and many of them.
pub mod Settled
pub mod Alone
pub mod Noting
pub mod Going
