-- How many nodes an operation makes where its actor alone takes steps, until something comes.
pub mod Few
pub mod Machines
pub mod Renew
pub mod Clean
pub mod Down
pub mod Climb
pub mod Along
pub mod Ends
