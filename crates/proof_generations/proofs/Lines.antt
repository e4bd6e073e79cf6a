-- What the lines of each program know of generations, and hand on.
pub mod Copy
pub mod Offers
pub mod Completes
pub mod Knows
pub mod Made
pub mod Own
pub mod Reader
pub mod OwnKnows
pub mod ReaderKnows
