-- What to cite from above, of a machine that is seen as the steps that it has taken (`Taken`).
--
-- One step: what it does to the run that led to it (Steps), and what the laws say of it (Applying). Steps of one operation: what they come to (Going, Completing), what is told
-- of them (Telling), that they end (Ending), who runs then (Resting). Steps of the sweep: Sweeping, what they leave (Reclaiming), how many they are (Freeing). The order:
-- Legality. What steps add to the record, and that it may be told what they tell: Record.
pub mod Bounds
pub mod Steps
pub mod Applying
pub mod Going
pub mod Completing
pub mod Telling
pub mod Ending
pub mod Resting
pub mod Sweeping
pub mod Reclaiming
pub mod Freeing
pub mod Legality
pub mod Record
