-- What to cite from above: `next_padded` (Padded.Steps) of a step of any padded state; `unswept_along` (Unswept.Shrinking), the induction over steps that free nothing.
pub mod Padded
pub mod Unswept
pub mod Wider
pub mod Below
