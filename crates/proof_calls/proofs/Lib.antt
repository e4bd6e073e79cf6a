-- What to cite from above: the laws, for each step of a call below its root (Steps), and for each step of a call (Roots).
pub mod Steps
pub mod Roots
