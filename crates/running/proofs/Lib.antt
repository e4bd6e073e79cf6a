-- Counting: from which steps a READ counts. Giving: what an operation's READ gives and commits by a step. Lasting: lines of the programs, and what is told to them.
-- Asks: ABORT's steps inside of any program. Going: steps of the programs.
-- Untaken: what commits nothing. Answering: where an operation ends. Ending: its last step. ByParts: the state after a step, part by part.
-- Offers: marks, and offers that are carried out. Ahead: what is about to be swapped in.
-- Roomy: programs whose walk was given room. Progress: what a step tells, put together.
pub mod Counting
pub mod Giving
pub mod Lasting
pub mod Asks
pub mod Going
pub mod Answering
pub mod Ending
pub mod ByParts
pub mod Offers
pub mod Ahead
pub mod Untaken
pub mod Roomy
pub mod Progress
