-- The laws as statements: of the order (Orders), and of root swaps (Openings).
pub mod Orders
pub mod Openings
pub mod Past
