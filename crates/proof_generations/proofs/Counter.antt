-- All generations that there are lie below the counter from which they are drawn.
pub mod Made
pub mod Drawn
pub mod Below
