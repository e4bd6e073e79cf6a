-- What the history says of the operations that run, began and ended, and of places.
pub mod Running
pub mod Books
pub mod AllBooks
pub mod Growing
pub mod Past
pub mod OneStep
pub mod Recalling
pub mod Closes
pub mod Candidates
pub mod HaveBegun
pub mod Copies
pub mod Answering
pub mod PlacesPast
