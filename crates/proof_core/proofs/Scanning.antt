-- A walk of a trie is in the trie's own order, and where it goes on behind a cursor.
--
-- That is an order, by the indices of hashes (Order); in a branch what lies below goes by places (Branches); what a walk meets where keys stand in place is in that order (Walks), and what
-- of it comes behind a cursor (Cursors). In each state of a run they do stand in place (Placed), so that a walk from a handle's root is its content in that order (Sorts).
pub mod Order
pub mod Branches
pub mod Walks
pub mod Cursors
pub mod Placed
pub mod Sorts
