-- When an operation has its place in the order.
pub mod Placing
pub mod Own
pub mod Behind
pub mod Swap
pub mod Copy
