-- What to cite from above: `known_used` (Known) that what is known is in use, `step_known` (Step) that what is known after a step was known before it or wasn't in use, `private_along` (Private) that
-- nobody else comes to what is private, `public_along` (Public) that what a root led to once is nobody's own.
pub mod Claims
pub mod Closed
pub mod Known
pub mod Step
pub mod Stays
pub mod Kept
pub mod Unknown
pub mod Restoring
pub mod Private
pub mod Public
pub mod Pending
pub mod Fresh
pub mod Gone
pub mod First
pub mod Swaps
pub mod GivenUp
pub mod Grace
pub mod Epochs
pub mod PutBack
