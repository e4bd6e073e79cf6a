pub mod Shards
pub mod Visiting
pub mod Rules
pub mod Hands
pub mod Seats
pub mod Opening
pub mod Finishing
pub mod Laws
