-- Who commits what, and which main nodes stay.
pub mod Was
pub mod MainsStay
pub mod Deciders
pub mod Owners
pub mod Entered
pub mod At
pub mod Standing
