-- The handle of a running operation stays open and of its kind; ids of running operations differ.
pub mod Running
pub mod Ids
pub mod Footings
pub mod Operations
