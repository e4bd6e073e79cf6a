-- The pass that was under way, and the first fresh one: each level is renewed once between them.
pub mod Ons
pub mod Lies
pub mod Older
pub mod Knowing
pub mod Renewal
pub mod Clearing
pub mod Linking
pub mod Tombs
pub mod Onward
pub mod First
pub mod Lines
pub mod Whole
pub mod EndsAll
